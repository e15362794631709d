-- A file is put into a shelf.
use Rattle.std.specs.Prelude.{◌≡◌, ◌≢◌, ℕ, List, Some}
use Rattle.std.specs.declared.option.Option.{Option}

-- the file of this name has these bytes now, and each other name is as it was
pub record Puts (old new : List ℕ → Option (List ℕ)) (name bytes : List ℕ) : Type 0 where
  pub here : new name ≡ Some bytes
  pub others : (other : List ℕ) → other ≢ name → new other ≡ old other
