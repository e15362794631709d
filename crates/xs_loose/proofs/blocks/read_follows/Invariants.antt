use Rattle.std.proofs.Common.{take}
use Rattle.xs_loose.specs.Arcs.{arcs_on}
use Rattle.xs_loose.specs.Growth.{NetGrows}
use Rattle.xs_loose.proofs.blocks.read_follows.Given as goal

abbrev pub invariant-positions : goal.invariant-positions
invariant-positions l = NetGrows (arcs_on l.automaton l.first 0 (take l.position l.automaton.follow)) l.initial.net l.net
