-- Lists that have exactly what a fact holds of.
use Rattle.std.specs.Prelude.{◌≡◌, ℕ, List, ◌++◌, Some, slice_get, Contains}

-- no element stands at two places
abbrev pub AreOnce : {X : Type 0} → List X → Type 0
AreOnce {X} xs = (k l : ℕ) (x : X) → slice_get xs k ≡ Some x → slice_get xs l ≡ Some x → k ≡ l

-- the list has exactly what the fact holds of, each once
pub record HasAllOf {X : Type 0} (P : X → Type 0) (xs : List X) : Type 0 where
  pub sound : (x : X) → Contains xs x → P x
  pub complete : (x : X) → P x → Contains xs x
  pub once : AreOnce xs

-- the new list is the old one, and after it exactly what the fact holds of, each once
pub record Appends {X : Type 0} (P : X → Type 0) (old new : List X) : Type 0 where
  pub added : List X
  pub is : new ≡ old ++ added
  pub all : HasAllOf P added
