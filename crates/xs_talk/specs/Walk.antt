-- The nodes that a walk over a derivation is in, the innermost last, and what a step of the walk does.
use Rattle.std.specs.Prelude.{◌≡◌, ℕ, suc, ◌<◌, ◌≤◌, List, [], ◌∷◌, ◌++◌, length, None, Some, codes, decimal, slice_get, slice_range}
use Rattle.std.specs.declared.option.Option.{Option}
use Rattle.xs_gram.specs.declared.parts.GItem.{GItem}
use Rattle.xs_gram.specs.declared.parts.GItem.TheVariants.{Fixed, Term, Non, Skip as Ignored}
use Rattle.xs_gram.specs.Grammar.{items}
use Rattle.xs_gram.specs.Derivations.{Derivation}
use Rattle.xs_gram.specs.Languages.{Derives}
use Rattle.xs_listing.specs.declared.spelt.SpeltPart.{SpeltPart}
use Rattle.xs_listing.specs.declared.spelt.SpeltPart.TheVariants.{Node, Leaf, Skip}
use Rattle.xs_listing.specs.Spelt.{IsSpeltOf}
use Rattle.xs_pair.specs.Grammars.{Pair}
use Rattle.xs_talk.specs.Words.{quoted}
use Rattle.xs_talk.specs.declared.walk.Task.{Task}
use Rattle.xs_talk.specs.Derivations.{slot_begin, derivation_line}
use Rattle.xs_talk.specs.Slots.{IsNamed}

-- the flat list is a derivation of the document on the text side
abbrev pub IsSpelt : Pair → List ℕ → List SpeltPart → Type 0
IsSpelt p w spelt = (d : Derivation) × Derives p.text w d × IsSpeltOf w spelt d

-- the line is that of the derivation that the flat list is
abbrev pub IsLineOf : Pair → List ℕ → List SpeltPart → List ℕ → Type 0
IsLineOf p w spelt line = (d : Derivation) → Derives p.text w d → IsSpeltOf w spelt d → line ≡ derivation_line p d

-- what stands before the part of an item
abbrev pub label : Pair → ℕ → GItem → List ℕ
label p rule (Fixed f) = []
label p rule (Term t s) = slot_begin p rule s
label p rule (Non n s) = slot_begin p rule s
label p rule (Ignored k) = codes " ~"

-- one more node is open: a production with its items and kids that are still to be written
pub record IsOpened (rule : ℕ) (is : List GItem) (vs : List ℕ) (old new : List Task) : Type 0 where
  pub task : Task
  pub of_rule : task.rule ≡ rule
  pub of_items : task.items.now ≡ is
  pub of_kids : task.kids.now ≡ vs
  pub last : new ≡ old ++ task ∷ []

-- the production of a part, or the stretch of the document that it has, is there
abbrev pub CanWrite : Pair → List ℕ → Option SpeltPart → Type 0
CanWrite p w None = ⊥
CanWrite p w (Some (Node q vs)) = q < length p.text.rules
CanWrite p w (Some (Leaf i j)) = (i ≤ j) × (j ≤ length w)
CanWrite p w (Some (Skip i j)) = (i ≤ j) × (j ≤ length w)

-- the beginning of a node is written, and the node is open; of a leaf and of an ignorable the whole
abbrev pub IsWritten : Pair → List ℕ → Option SpeltPart → List Task → List ℕ → List Task → List ℕ → Type 0
IsWritten p w None old out new out' = ⊥
IsWritten p w (Some (Node q vs)) old out new out' = (out' ≡ out ++ (codes "(" ++ decimal (suc q))) × IsOpened q (items p.text q) vs old new
IsWritten p w (Some (Leaf i j)) old out new out' = (out' ≡ out ++ quoted p.names (slice_range w i j)) × (new ≡ old)
IsWritten p w (Some (Skip i j)) old out new out' = (out' ≡ out ++ quoted p.names (slice_range w i j)) × (new ≡ old)

-- the first kid is there, and its item's slot has a name
abbrev pub HasKid : Pair → List ℕ → List SpeltPart → ℕ → GItem → List ℕ → Type 0
HasKid p w spelt rule item [] = ⊥
HasKid p w spelt rule item (v ∷ vs) = IsNamed p rule item × CanWrite p w (slice_get spelt v)

-- the first kid is written after its label, as far as it can be at once
abbrev pub IsKidWritten : Pair → List ℕ → List SpeltPart → ℕ → GItem → List GItem → List ℕ → List Task → List ℕ → List Task → List ℕ → Type 0
IsKidWritten p w spelt rule item is [] old out new out' = ⊥
IsKidWritten p w spelt rule item is (v ∷ vs) old out new out' = (mid : List Task) × IsOpened rule is vs old mid × IsWritten p w (slice_get spelt v) mid (out ++ label p rule item) new out'

-- the first of the items can be written
abbrev pub CanDo : Pair → List ℕ → List SpeltPart → ℕ → List GItem → List ℕ → Type 0
CanDo p w spelt rule [] vs = Unit {0}
CanDo p w spelt rule (Fixed f ∷ is) vs = Unit {0}
CanDo p w spelt rule (Term t s ∷ is) vs = HasKid p w spelt rule (Term t s) vs
CanDo p w spelt rule (Non n s ∷ is) vs = HasKid p w spelt rule (Non n s) vs
CanDo p w spelt rule (Ignored k ∷ is) vs = HasKid p w spelt rule (Ignored k) vs

-- the first of the items is written, or the node is closed
abbrev pub IsDone : Pair → List ℕ → List SpeltPart → ℕ → List GItem → List ℕ → List Task → List ℕ → List Task → List ℕ → Type 0
IsDone p w spelt rule [] vs old out new out' = (out' ≡ out ++ codes ")") × (new ≡ old)
IsDone p w spelt rule (Fixed f ∷ is) vs old out new out' = (out' ≡ out) × IsOpened rule is vs old new
IsDone p w spelt rule (Term t s ∷ is) vs old out new out' = IsKidWritten p w spelt rule (Term t s) is vs old out new out'
IsDone p w spelt rule (Non n s ∷ is) vs old out new out' = IsKidWritten p w spelt rule (Non n s) is vs old out new out'
IsDone p w spelt rule (Ignored k ∷ is) vs old out new out' = IsKidWritten p w spelt rule (Ignored k) is vs old out new out'

-- each of the flat lists is a derivation of the document
abbrev pub AreSpelt : Pair → List ℕ → List (List SpeltPart) → Type 0
AreSpelt p w [] = Unit {0}
AreSpelt p w (s ∷ ss) = IsSpelt p w s × AreSpelt p w ss

-- the lines are those of the derivations, one for each
abbrev pub AreLinesOf : Pair → List ℕ → List (List SpeltPart) → List (List ℕ) → Type 0
AreLinesOf p w [] [] = Unit {0}
AreLinesOf p w (s ∷ ss) (l ∷ ls) = IsLineOf p w s l × AreLinesOf p w ss ls
AreLinesOf p w _ _ = ⊥
