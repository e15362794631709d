-- How many nodes and leaves a common tree has, as far as 64 bits can count.
use Rattle.std.specs.Prelude.{ℕ, ◌+◌, ◌-◌, ◌^◌, min, List, [], ◌∷◌, slice_index}
use Rattle.xs_gram.specs.Common.{Common, parts_count}

-- a number, and 2^64 less 1 for each that is above
abbrev pub capped : ℕ → ℕ
capped n = min n (2 ^ 64 - 1)

-- the number of nodes and leaves of a tree, capped
abbrev pub capped_count : Common → ℕ
capped_count tree = capped (parts_count tree)

-- the sum of the numbers at these places
abbrev pub picked_sum : List ℕ → List ℕ → ℕ
picked_sum numbers [] = 0
picked_sum numbers (k ∷ ks) = slice_index numbers k + picked_sum numbers ks
