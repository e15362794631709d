use Rattle.std.proofs.Common.{take}
use Rattle.xs_loose.specs.Arcs.{arcs_out}
use Rattle.xs_loose.specs.Growth.{NetGrows}
use Rattle.xs_loose.proofs.blocks.pass_all.Given as goal

abbrev pub invariant-lasts : goal.invariant-lasts
invariant-lasts l = NetGrows (arcs_out l.first (take l.last-index l.lasts) l.to) l.initial.net l.net
