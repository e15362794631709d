-- A list of different derivations of a document, as many as there are and no more than a given number.
use Rattle.std.specs.Prelude.{◌≡◌, ℕ, suc, ◌≤◌, List, length, min, Bool, true, false, ltb, Some, slice_get}
use Rattle.xs_gram.specs.Grammar.{Grammar}
use Rattle.xs_gram.specs.Derivations.{done, sub, Derivation}
use Rattle.xs_gram.specs.Languages.{Derives}
use Rattle.xs_forest_laws.specs.Forest.{Forest, Unfolding, read}
use Rattle.xs_forest_laws.specs.Number.{count_of, IsCounted, At}

-- The derivations are different ones of the document, at most max, all of them where `more` is false, and
-- max of them where it is true, with one that is not among them.
pub record IsListed (g : Grammar) (w : List ℕ) (max : ℕ) (ds : List Derivation) (more : Bool) : Type 0 where
  pub derives : (k : ℕ) (d : Derivation) → slice_get ds k ≡ Some d → Derives g w d
  pub differ : (k l : ℕ) (d : Derivation) → slice_get ds k ≡ Some d → slice_get ds l ≡ Some d → k ≡ l
  pub within : length ds ≤ max
  pub all : more ≡ false → (d : Derivation) → Derives g w d → (k : ℕ) × (slice_get ds k ≡ Some d)
  pub over : more ≡ true → (length ds ≡ max) × (d : Derivation) × Derives g w d × ((k : ℕ) → slice_get ds k ≡ Some d → ⊥)

-- derivation number k is read from unfolding number k of the root, by counts that stop at max + 1
pub record IsByNumber (g : Grammar) (w : List ℕ) (f : Forest) (root max : ℕ) (cs : List ℕ) (ds : List Derivation) (more : Bool) : Type 0 where
  pub counted : IsCounted f (suc max) cs
  pub long : length ds ≡ min max (count_of cs (Some root))
  pub each : (k : ℕ) (d : Derivation) → slice_get ds k ≡ Some d → (u : Unfolding) × At f (suc max) cs (Some root) k u × (read g w f (Some root) u ≡ sub d.rule d.parts done)
  pub says : more ≡ ltb max (count_of cs (Some root))
