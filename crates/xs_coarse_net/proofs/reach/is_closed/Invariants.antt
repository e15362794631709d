use Rattle.std.proofs.Common.{◌<◌}
use Rattle.std.specs.List.{Contains}
use Rattle.xs_coarse.specs.declared.arc.Arc.{Arc}
use Rattle.xs_coarse_net.specs.Reaching.{HasUse}
use Rattle.xs_coarse_net.proofs.reach.is_closed.Given as goal

abbrev pub invariant-nons : goal.invariant-nons
invariant-nons l = (x : Arc) → Contains l.uses.arcs x → x.from < l.non → HasUse l.has x
