-- Reading line by line: the nodes that have no child yet at some slot, and where a line leads.
use Rattle.std.specs.Prelude.{◌≡◌, ℕ, suc, List, [], ◌∷◌, length, None, Some, if◌then◌else◌, slice_get, slice_set}
use Rattle.std.specs.declared.option.Option.{Option}
use Rattle.xs_class.specs.Ordered.{place_of}
use Rattle.xs_gram.specs.Grammar.{IsRuleOf, IsTermWord}
use Rattle.xs_gram.specs.Common.{Common, word, made, Kind, of_term, of_non}
use Rattle.xs_pair.specs.Units.{number_of}
use Rattle.xs_pair.specs.Grammars.{Pair}
use Rattle.xs_outline.specs.Lines.{Entry, production, leaf_word, Line}
use Rattle.xs_outline.specs.Shapes.{names_of, kind_at, empty_cells, is_full, kids_in, root_name, root_kind}

-- a node that is open: its production, the slot of its parent that it is for, and its children
pub record Frame : Type 0 where
  pub rule : ℕ
  pub slot : ℕ
  pub cells : List (Option Common)

abbrev pub frame : ℕ → ℕ → List (Option Common) → Frame
frame rule slot cells = record { rule = rule; slot = slot; cells = cells }

-- before the root, within a node and those around it, the innermost first, or after the whole tree
pub data State : Type 0 where
  at_start : State
  within : Frame → List Frame → State
  complete : Common → State

abbrev pub frame_tree : ℕ → List (Option Common) → Common
frame_tree rule cells = made rule (kids_in cells)

-- a tree at a slot of the innermost node: nodes that have all their children are closed
abbrev pub give : List Frame → ℕ → Common → State
give [] s t = complete t
give (f ∷ fs) s t =
    if is_full (slice_set f.cells s (Some t)) then give fs f.slot (frame_tree f.rule (slice_set f.cells s (Some t)))
    else within (frame f.rule f.slot (slice_set f.cells s (Some t))) fs

abbrev pub settle : Frame → List Frame → State
settle f fs = if is_full f.cells then give fs f.slot (frame_tree f.rule f.cells) else within f fs

-- a leaf is whole, and a node is open unless its production has no slots
abbrev pub enter : Pair → List Frame → ℕ → Entry → State
enter p fs s (leaf_word w) = give fs s (word w)
enter p fs s (production q) = settle (frame q s (empty_cells p q)) fs

abbrev pub next : Pair → State → Line → State
next p at_start l = enter p [] 0 l.entry
next p (within f fs) l = enter p (f ∷ fs) (number_of (names_of p f.rule) l.name) l.entry
next p (complete t) l = complete t

-- the entry may stand at a slot of this kind
abbrev pub EntryFits : Pair → Option Kind → Entry → Type 0
EntryFits p (Some (of_term t)) (leaf_word w) = IsTermWord p.text t w
EntryFits p (Some (of_non n)) (production q) = IsRuleOf p.text n q
EntryFits p kind e = ⊥

-- the name is that of a slot which has no child yet, and where the entry may stand
pub record IsWelcome (p : Pair) (f : Frame) (name : List ℕ) (entry : Entry) : Type 0 where
  pub slot : ℕ
  pub named : place_of (names_of p f.rule) name ≡ Some slot
  pub free : slice_get f.cells slot ≡ Some None
  pub fits : EntryFits p (kind_at p f.rule slot) entry

-- the line may come next
abbrev pub MayCome : Pair → State → Line → Type 0
MayCome p at_start l = (l.depth ≡ 0) × (l.name ≡ root_name) × EntryFits p (root_kind p) l.entry
MayCome p (within f fs) l = (l.depth ≡ suc (length fs)) × IsWelcome p f l.name l.entry
MayCome p (complete t) l = ⊥

abbrev pub after : Pair → State → List Line → State
after p state [] = state
after p state (l ∷ ls) = after p (next p state l) ls

abbrev pub MayAllCome : Pair → State → List Line → Type 0
MayAllCome p state [] = Unit {0}
MayAllCome p state (l ∷ ls) = MayCome p state l × MayAllCome p (next p state l) ls

-- the lines lead from one state to another
pub record Passes (p : Pair) (from : State) (ls : List Line) (to : State) : Type 0 where
  pub may : MayAllCome p from ls
  pub is : after p from ls ≡ to

-- each slot of a production has a name of its own
abbrev pub HasDistinctSlots : Pair → Type 0
HasDistinctSlots p = (q s : ℕ) (name : List ℕ) → slice_get (names_of p q) s ≡ Some name → place_of (names_of p q) name ≡ Some s
