-- Fixed words among items.
use Rattle.std.specs.Prelude.{◌≡◌, ℕ, ⊤, List, ◌++◌, slice_get, Some}
use Rattle.xs_gram.specs.declared.parts.GItem.{GItem}
use Rattle.xs_gram.specs.declared.parts.GItem.TheVariants.{Fixed, Term, Non, Skip}

-- the item is a fixed word
abbrev pub IsFixed : GItem → Type 0
IsFixed (Fixed f) = ⊤
IsFixed (Term t s) = ⊥
IsFixed (Non m s) = ⊥
IsFixed (Skip k) = ⊥

-- no word begins with both words, or ends with both
abbrev pub BeginApart : List ℕ → List ℕ → Type 0
BeginApart u v = (x y : List ℕ) → u ++ x ≡ v ++ y → ⊥

abbrev pub EndApart : List ℕ → List ℕ → Type 0
EndApart u v = (x y : List ℕ) → x ++ u ≡ y ++ v → ⊥

-- fixed words stand at places of two lists of items, and R holds of them
pub record AreWordsAt (R : List ℕ → List ℕ → Type 0) (one : List GItem) (k : ℕ) (other : List GItem) (m : ℕ) : Type 0 where
  pub first : List ℕ
  pub second : List ℕ
  pub at_first : slice_get one k ≡ Some (Fixed first)
  pub at_second : slice_get other m ≡ Some (Fixed second)
  pub apart : R first second
