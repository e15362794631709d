-- The unfolding of a row by the first alternatives.
use Rattle.std.specs.Prelude.{◌≡◌, ℕ, zero, ◌<◌, length, None, Some, slice_get}
use Rattle.std.specs.declared.option.Option.{Option}
use Rattle.xs_forest_laws.specs.Forest.{Forest, alts_of, Unfolding, bare, pick}

-- the unfolding chooses the first alternative of each row
abbrev pub IsFirst : Forest → Option ℕ → Unfolding → Type 0
IsFirst f None bare = Unit {0}
IsFirst f None (pick a l r) = ⊥
IsFirst f (Some n) bare = ⊥
IsFirst f (Some n) (pick a l r) = (n < length f) × (slice_get (alts_of f n) zero ≡ Some a) × IsFirst f a.left l × IsFirst f a.right r
