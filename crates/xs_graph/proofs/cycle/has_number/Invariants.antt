use Rattle.std.proofs.Common.{take}
use Rattle.xs_graph.specs.Graphs.{HasNumber}
use Rattle.xs_graph.proofs.cycle.has_number.Given as goal

abbrev pub invariant-targets : goal.invariant-targets
invariant-targets l = record { none : HasNumber (take l.target-index l.targets) l.numbers l.number → ⊥ }
