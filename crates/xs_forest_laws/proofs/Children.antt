-- The children of an alternative stand before its row.
use Rattle.std.proofs.Common.{◌≡◌, ◌⊎◌, inl, inr, ℕ, suc, ◌<◌, List, length, Option, Some, None, refl, arith}
use Rattle.std.specs.Prelude.{Contains}
use Rattle.xs_gram.specs.Grammar.{Grammar}
use Rattle.xs_forest.specs.declared.row.Alt.{Alt}
use Rattle.xs_forest_laws.specs.Forest.{Forest, alts_of, IsRight}

-- a child that is a row stands before row n
abbrev pub IsBefore : Forest → Option ℕ → ℕ → Type 0
IsBefore f None n = Unit {0}
IsBefore f (Some r) n = (r < n) × (r < length f)

module _ (g : Grammar) (w : List ℕ) (f : Forest) (right : IsRight g w f) where
  child_before : (r n : ℕ) (a : Alt) → r < suc n → r < length f → Contains (alts_of f r) a → (o : Option ℕ) → ((c : ℕ) → o ≡ Some c → (a.left ≡ Some c) ⊎ (a.right ≡ Some c)) → IsBefore f o n
  child_before r n a lt lf c None h = tt
  child_before r n a lt lf c (Some m) h = let b = right.below r m a lf c (h m refl) in (omega arith, omega arith)

  pub children_before : (r n : ℕ) (a : Alt) → r < suc n → r < length f → Contains (alts_of f r) a → IsBefore f a.left n × IsBefore f a.right n
  children_before r n a lt lf c = (child_before r n a lt lf c a.left (λ m e. inl e), child_before r n a lt lf c a.right (λ m e. inr e))
