use Rattle.std.proofs.Common.{◌≡◌, ◌<◌, ℕ, List, Some, slice_get}
use Rattle.xs_class.specs.Ordered.{place_of}
use Rattle.xs_pair.proofs.directory.Directory.is_distinct.Given as goal

abbrev pub invariant-texts : goal.invariant-texts
invariant-texts l = (k : ℕ) (name : List ℕ) → k < l.place → slice_get l.list k ≡ Some name → place_of l.self name ≡ Some k
