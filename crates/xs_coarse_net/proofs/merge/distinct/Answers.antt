use Rattle.std.specs.List.{Contains}
use Rattle.xs_coarse.specs.declared.arc.Arc.{Arc}
use Rattle.xs_coarse_net.proofs.Rows.{take_each, take_whole}
use Rattle.xs_coarse_net.proofs.merge.distinct.Goals as goal

pub arcs-preserved : goal.arcs-preserved
arcs-preserved c = take_each (λ (x : Arc). Contains c.push_distinct.new.arcs.items x) c.args.sorted.now c.arcs.x-index _ c.arcs-test.true (λ x h. c.in_ok-push_distinct.ensures.others x (c.arcs.invariant x h)) c.in_ok-push_distinct.ensures.here

pub returns : goal.returns
returns c = λ x h. c.arcs.invariant x (take_whole c.args.sorted.now c.arcs.x-index x c.arcs-test.false h)
