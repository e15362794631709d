-- What the reader of lines keeps, and the state that it stands for.
use Rattle.std.specs.Prelude.{◌≡◌, ℕ, zero, suc, ◌<◌, ◌≤◌, ◌+◌, ◌-◌, List, [], ◌∷◌, ◌++◌, length, None, Some, nat_eq, ◌&&◌, ◌==◌, if◌then◌else◌, slice_get}
use Rattle.std.specs.declared.option.Option.{Option}
use Rattle.std.specs.HashMap.{HashMap, get}
use Rattle.xs_gram.specs.Common.{Common, Kind, of_term, of_non}
use Rattle.xs_tree.specs.Flat.{TreePart, Node, tree_at, tree_of, trees_of}
use Rattle.xs_pair.specs.Grammars.{Pair}
use Rattle.xs_outline.specs.Lines.{Entry, production, leaf_word, Line, line, SpellsLine, AreSpelt, text_lines}
use Rattle.xs_outline.specs.Reading.{IsFirstLine}
use Rattle.xs_outline.specs.Shapes.{slot_count}
use Rattle.xs_outline.specs.Machine.{Frame, frame, State, at_start, within, complete, enter, next, after, EntryFits, MayCome, MayAllCome}
use Rattle.xs_outline.specs.declared.reader.Open.{Open}
use Rattle.xs_outline.specs.declared.reader.Reader.{Reader}

-- the part that is the child of a node at a slot
abbrev pub child_at : {S : Type 0} → HashMap (ℕ × ℕ) ℕ S → ℕ → ℕ → Option ℕ
child_at children node slot = get (λ x y. nat_eq x.0 y.0 && nat_eq x.1 y.1) children (node, slot)

abbrev pub tree_in : List Common → Option ℕ → Option Common
tree_in trees None = None
tree_in trees (Some part) = Some (tree_at trees part)

-- the children at so many slots from one on
abbrev pub cells_from : List Common → (ℕ → Option ℕ) → ℕ → ℕ → List (Option Common)
cells_from trees look s zero = []
cells_from trees look s (suc n) = tree_in trees (look s) ∷ cells_from trees look (suc s) n

-- how many slots have no child
abbrev pub missing : List (Option Common) → ℕ
missing [] = 0
missing (None ∷ cells) = suc (missing cells)
missing (Some t ∷ cells) = missing cells

abbrev pub cells_of : Pair → List Common → (ℕ → ℕ → Option ℕ) → Open → List (Option Common)
cells_of p trees look o = cells_from trees (look o.node) 0 (slot_count p o.rule)

abbrev pub frame_of : Pair → List Common → (ℕ → ℕ → Option ℕ) → Open → Frame
frame_of p trees look o = frame o.rule o.slot (cells_of p trees look o)

-- nodes that are open within others, the innermost first
abbrev pub frames_onto : Pair → List Common → (ℕ → ℕ → Option ℕ) → List Frame → List Open → List Frame
frames_onto p trees look fs [] = fs
frames_onto p trees look fs (o ∷ os) = frames_onto p trees look (frame_of p trees look o ∷ fs) os

abbrev pub state_within : List Frame → State
state_within [] = at_start
state_within (f ∷ fs) = within f fs

abbrev pub state_at : List Common → List Frame → Option ℕ → State
state_at trees fs None = state_within fs
state_at trees fs (Some part) = complete (tree_at trees part)

abbrev pub frames : Pair → Reader → List Frame
frames p r = frames_onto p (trees_of r.parts) (child_at r.children) [] r.open.items

abbrev pub state : Pair → Reader → State
state p r = state_at (trees_of r.parts) (frames p r) r.root

-- nothing was read
pub record IsNew (r : Reader) : Type 0 where
  pub parts : r.parts ≡ []
  pub open_ : r.open.items ≡ []
  pub children : (node slot : ℕ) → child_at r.children node slot ≡ None
  pub root : r.root ≡ None

-- a node that lacks one child less
abbrev pub less : Open → Open
less o = record { node = o.node; rule = o.rule; slot = o.slot; missing = o.missing - 1 }

-- the innermost node has no child at the slot
abbrev pub IsFree : List Frame → ℕ → Type 0
IsFree [] s = Unit {0}
IsFree (f ∷ fs) s = slice_get f.cells s ≡ Some None

-- a node that is open: its production is there, and it lacks that many children, one at least
pub record IsOpen (p : Pair) (trees : List Common) (look : ℕ → ℕ → Option ℕ) (o : Open) : Type 0 where
  pub rule : o.rule < length p.text.rules
  pub missing : o.missing ≡ missing (cells_of p trees look o)
  pub some : 0 < o.missing

-- nodes that are open within others: their numbers rise from one on up to a bound, and each stands at a free slot
abbrev pub AreOpen : Pair → List Common → (ℕ → ℕ → Option ℕ) → List Frame → ℕ → ℕ → List Open → Type 0
AreOpen p trees look fs low bound [] = low ≤ bound
AreOpen p trees look fs low bound (o ∷ os) = (low ≤ o.node) × IsOpen p trees look o × IsFree fs o.slot × AreOpen p trees look (frame_of p trees look o ∷ fs) (suc o.node) bound os

-- children are parts, and no node from a number on has one
pub record AreChildren (parts : List TreePart) (look : ℕ → ℕ → Option ℕ) (bound : ℕ) : Type 0 where
  pub below : (node slot part : ℕ) → look node slot ≡ Some part → part < length parts
  pub fresh : (node slot : ℕ) → bound ≤ node → look node slot ≡ None

-- what the reader keeps, where nodes from a number on were not opened yet
pub record IsKept (p : Pair) (bound : ℕ) (r : Reader) : Type 0 where
  pub children : AreChildren r.parts (child_at r.children) bound
  pub open_ : AreOpen p (trees_of r.parts) (child_at r.children) [] 0 bound r.open.items
  pub whole : (part : ℕ) → r.root ≡ Some part → (part < length r.parts) × (r.open.items ≡ [])

-- the children at a node's slots, where there is one more
unfoldable pub with_child : (ℕ → Option ℕ) → ℕ → ℕ → ℕ → Option ℕ
with_child look slot part s = if s == slot then Some part else look s

-- a node was closed, whose children are those that it had, and a last one at a slot
pub record IsClosed (old new : Reader) (node rule count slot last part : ℕ) : Type 0 where
  pub kids : List ℕ
  pub long : length kids ≡ count
  pub each : (s : ℕ) → s < count → slice_get kids s ≡ with_child (child_at old.children node) slot last s
  pub number : part ≡ length old.parts
  pub parts : new.parts ≡ old.parts ++ Node rule kids ∷ []
  pub means : trees_of new.parts ≡ trees_of old.parts ++ tree_of (trees_of old.parts) (Node rule kids) ∷ []
  pub children : new.children ≡ old.children
  pub open_ : new.open ≡ old.open
  pub root : new.root ≡ old.root

-- the production of an entry is there
abbrev pub HasRule : Pair → Entry → Type 0
HasRule p (production q) = q < length p.text.rules
HasRule p (leaf_word w) = Unit {0}

-- a terminal is there
abbrev pub IsThere : Pair → Kind → Type 0
IsThere p (of_term t) = t < length p.text.terms
IsThere p (of_non n) = Unit {0}

-- where the next line leads: it is of this kind at this slot of the innermost node
pub record IsPlaceFor (p : Pair) (s : State) (fs : List Frame) (depth : ℕ) (name : List ℕ) (kind : Kind) (slot : ℕ) : Type 0 where
  pub may : (e : Entry) → EntryFits p (Some kind) e → MayCome p s (line depth name e)
  pub only : (e : Entry) → MayCome p s (line depth name e) → EntryFits p (Some kind) e
  pub goes : (e : Entry) → next p s (line depth name e) ≡ enter p fs slot e
  pub free : IsFree fs slot

abbrev pub NoPlaceFor : Pair → State → ℕ → List ℕ → Type 0
NoPlaceFor p s depth name = (e : Entry) → MayCome p s (line depth name e) → ⊥

-- a text spells a line that may come, and leads from one state to another
pub record Goes (p : Pair) (from : State) (text : List ℕ) (to : State) : Type 0 where
  pub line : Line
  pub spells : SpellsLine line text
  pub may : MayCome p from line
  pub is : to ≡ next p from line

-- it spells no line that may come
abbrev pub IsStuck : Pair → State → List ℕ → Type 0
IsStuck p from text = (l : Line) → SpellsLine l text → MayCome p from l → ⊥

-- the same of the first line of a text, where rest follows it
pub record GoesFirst (p : Pair) (from : State) (text rest : List ℕ) (to : State) : Type 0 where
  pub front : List ℕ
  pub first : IsFirstLine text front rest
  pub goes : Goes p from front to

abbrev pub IsStuckFirst : Pair → State → List ℕ → Type 0
IsStuckFirst p from text = (front rest : List ℕ) → IsFirstLine text front rest → IsStuck p from front

-- That many lines of the document were read, and rest is what follows them; they may come one by one, and lead to
-- this state.
pub record IsRead (p : Pair) (doc rest : List ℕ) (number : ℕ) (to : State) : Type 0 where
  pub done : List (List ℕ)
  pub lines : List Line
  pub texts : text_lines doc ≡ done ++ text_lines rest
  pub spelt : AreSpelt lines done
  pub may : MayAllCome p at_start lines
  pub is : after p at_start lines ≡ to
  pub count : number ≡ length done
  pub room : number + length rest ≤ length doc
