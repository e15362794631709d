use Rattle.xs_clauses.specs.Made.{AreFlags}
use Rattle.xs_order.specs.Wanted.{HasWanted}
use Rattle.xs_order.proofs.wanted.flags_of.Given as goal

abbrev pub invariant-leaves : goal.invariant-leaves
invariant-leaves l = AreFlags (HasWanted l.g l.kind l.wanted) l.leaf l.flags.items
