use Rattle.std.proofs.Common.{◌≡◌, ◌++◌, take}
use Rattle.xs_order.proofs.graphs.extend.Given as goal

abbrev pub invariant-targets : goal.invariant-targets
invariant-targets l = l.row ≡ l.initial.row ++ take l.target-index l.targets
