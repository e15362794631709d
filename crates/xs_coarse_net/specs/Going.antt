-- Paths by the arcs of a coarse net, and nets that gain arcs.
use Rattle.std.specs.Prelude.{◌≡◌, ◌≢◌, ℕ, ◌<◌, List, [], ◌∷◌, length, get_or, IsTrue}
use Rattle.std.specs.List.{Contains}
use Rattle.xs_class.specs.Classes.{Has}
use Rattle.xs_regex.specs.declared.position.Position.{Position}
use Rattle.xs_regex.specs.Automaton.{HasAt, Leads}
use Rattle.xs_gram.specs.declared.parts.GItem.{GItem}
use Rattle.xs_gram.specs.declared.parts.GItem.TheVariants.{Fixed, Term, Non, Skip}
use Rattle.xs_gram.specs.Grammar.{Grammar, IsTermWord, IsSkipWord}
use Rattle.xs_coarse.specs.declared.arc.Arc.{Arc}
use Rattle.xs_coarse.specs.Coarse.{Table, Net, HasArc, class_label, class_at}

-- the label reads the symbol
pub record LabelReads (t : Table) (label s : ℕ) : Type 0 where
  pub class : ℕ
  pub below : class < length t.classes
  pub is : label ≡ class_label class
  pub has : Has (class_at t class) s

-- a path from a state to another reads a word, by arcs that read nothing or a symbol
pub data Goes (t : Table) (n : Net) : ℕ → List ℕ → ℕ → Type 0 where
  goes_none : {a : ℕ} → Goes t n a [] a
  goes_move : {a b c : ℕ} {w : List ℕ} → HasArc n a 0 b → Goes t n b w c → Goes t n a w c
  goes_read : {a b c label s : ℕ} {w : List ℕ} → HasArc n a label b → LabelReads t label s → Goes t n b w c → Goes t n a (s ∷ w) c

-- the second net has the states of the first one, and its arcs
pub record Grows (old new : Net) : Type 0 where
  pub states : new.states ≡ old.states
  pub kept : (x : Arc) → Contains old.arcs x → Contains new.arcs x

-- and this arc
pub record Adds (old new : Net) (from label to : ℕ) : Type 0 where
  pub grows : Grows old new
  pub there : HasArc new from label to

-- each word of an item that is no nonterminal leads from a state to another
abbrev pub LeafGoes : Grammar → Table → Net → GItem → ℕ → ℕ → Type 0
LeafGoes g t n (Fixed f) a b = Goes t n a f b
LeafGoes g t n (Term i s) a b = (w : List ℕ) → IsTermWord g i w → Goes t n a w b
LeafGoes g t n (Non m s) a b = ⊥
LeafGoes g t n (Skip k) a b = (w : List ℕ) → IsSkipWord g k w → Goes t n a w b

-- each position's label reads each symbol of its class
abbrev pub AreLabelsOf : Table → Position → List ℕ → Type 0
AreLabelsOf t p labels = (k s : ℕ) → HasAt p k s → LabelReads t (get_or labels k 0) s

-- An automaton is laid from a state to another, its positions at the states of a list: from the first
-- state to the first positions, from each position to those that follow it, from each last one to the
-- last state, unless it stands there, and past all where it accepts the empty word.
pub record IsLaidIn (n : Net) (p : Position) (labels states : List ℕ) (from to : ℕ) : Type 0 where
  pub first : (k : ℕ) → Contains p.first k → HasArc n from (get_or labels k 0) (get_or states k 0)
  pub next : (j k : ℕ) → Leads p j k → HasArc n (get_or states j 0) (get_or labels k 0) (get_or states k 0)
  pub last : (k : ℕ) → Contains p.last k → get_or states k 0 ≢ to → HasArc n (get_or states k 0) 0 to
  pub past : IsTrue p.nullable → HasArc n from 0 to
