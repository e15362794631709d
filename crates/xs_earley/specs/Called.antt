-- Marks on nonterminals, all of which are removed at once.
use Rattle.std.specs.Prelude.{ℕ, ◌≤◌, Bool, nat_eq, List, map, slice_index_or}

-- one whose number is the last one is marked
abbrev pub marked : ℕ → List ℕ → List Bool
marked last marks = map (λ mark. nat_eq mark last) marks

-- no number is above the last one
abbrev pub AreUpTo : ℕ → List ℕ → Type 0
AreUpTo last marks = (k : ℕ) → slice_index_or marks k 0 ≤ last
