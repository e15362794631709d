use Rattle.std.proofs.Common.{take}
use Rattle.xs_loose.specs.Arcs.{arcs_into}
use Rattle.xs_loose.specs.Growth.{NetGrows}
use Rattle.xs_loose.proofs.blocks.read_all.Given as goal

abbrev pub invariant-targets : goal.invariant-targets
invariant-targets l = NetGrows (arcs_into l.automaton l.first l.from (take l.target-index l.targets)) l.initial.net l.net
