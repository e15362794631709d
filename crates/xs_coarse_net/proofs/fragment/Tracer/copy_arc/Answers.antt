use Rattle.std.proofs.Common.{refl}
use Rattle.xs_coarse_net.proofs.Tracing.{reaches_on, arc_more, copied_here}
use Rattle.xs_coarse_net.proofs.fragment.Tracer.copy_arc.Goals as goal

pub returns-clause-reaches : goal.returns-clause-reaches
returns-clause-reaches c = reaches_on c.in_ok-to.ensures.reaches (arc_more _ _ _ refl refl c.in_ok-push.ensures.items)

pub returns-clause-copied : goal.returns-clause-copied
returns-clause-copied c = copied_here c.name.new.self _ c.args.from c.in_ok-to.to c.args.x c.in_ok-to.ensures.name c.in_ok-to.ensures.some refl c.in_ok-push.ensures.items
