use Rattle.std.proofs.Common.{◌≡◌, ◌<◌, ℕ, List, Some, slice_get}
use Rattle.xs_pair.specs.Rules.{IsAmong}
use Rattle.xs_pair.proofs.directory.Directory.has_all.Given as goal

abbrev pub invariant-texts : goal.invariant-texts
invariant-texts l = (k : ℕ) (name : List ℕ) → k < l.name-index → slice_get l.names k ≡ Some name → IsAmong l.self name
