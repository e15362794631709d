-- What reading to the end and writing all do.
use Rattle.std.specs.Prelude.{◌≡◌, ℕ, ◌+◌, ◌<◌, ◌≤◌, List, [], ◌++◌, length, ⊤, None, Some}
use Rattle.std.specs.declared.option.Option.{Option}
use Rattle.std.specs.Io.KnownBytes.{Consumes}

-- at most limit bytes were left, these, and none is left now
abbrev pub Drains : Option (List ℕ) → Option (List ℕ) → List ℕ → ℕ → Type 0
Drains None new bytes limit = length bytes ≤ limit
Drains (Some xs) None bytes limit = ⊥
Drains (Some xs) (Some ys) bytes limit = (bytes ≡ xs) × (ys ≡ []) × (length bytes ≤ limit)

-- more than limit bytes were left, of which at most limit + 1 were taken
abbrev pub Exceeds : Option (List ℕ) → Option (List ℕ) → ℕ → Type 0
Exceeds None new limit = ⊤
Exceeds (Some xs) None limit = ⊥
Exceeds (Some xs) (Some ys) limit = (limit < length xs) × (taken : List ℕ) × (xs ≡ taken ++ ys) × (length taken ≤ limit + 1)

-- a front of what was left was taken, at most this many bytes
pub record TakesAtMost (old new : Option (List ℕ)) (most : ℕ) : Type 0 where
  pub taken : List ℕ
  pub front : Consumes old new taken
  pub few : length taken ≤ most
