use Rattle.std.proofs.Common.{take}
use Rattle.std.specs.List.{Contains}
use Rattle.xs_coarse.specs.declared.arc.Arc.{Arc}
use Rattle.xs_coarse_net.specs.Renaming.{IsCarried}
use Rattle.xs_coarse_net.proofs.merge.named_arcs.Given as goal

abbrev pub invariant-arcs : goal.invariant-arcs
invariant-arcs l = (x : Arc) → Contains (take l.x-index l.net.arcs) x → IsCarried l.names l.arcs.items x
