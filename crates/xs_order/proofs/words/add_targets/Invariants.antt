use Rattle.std.proofs.Common.{take}
use Rattle.xs_order.specs.Runs.{AreAdded}
use Rattle.xs_order.proofs.words.add_targets.Given as goal

abbrev pub invariant-targets : goal.invariant-targets
invariant-targets l = AreAdded l.automaton l.from (take l.target-index l.targets) l.initial.clauses.items l.clauses.items
