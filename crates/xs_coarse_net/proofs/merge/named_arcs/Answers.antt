use Rattle.xs_coarse.specs.declared.arc.Arc.{Arc}
use Rattle.xs_coarse_net.specs.Renaming.{IsCarried}
use Rattle.xs_coarse_net.proofs.Renaming.{carried_more}
use Rattle.xs_coarse_net.proofs.Rows.{take_each, take_whole}
use Rattle.xs_coarse_net.proofs.merge.named_arcs.Goals as goal

pub arcs-preserved : goal.arcs-preserved
arcs-preserved c = take_each (λ (x : Arc). IsCarried c.args.names.now c.push_named.new.arcs.items x) c.args.net.now.arcs c.arcs.x-index _ (rw c.arcs-x-items.ensures at c.arcs-test.true) (λ x h. carried_more c.args.names.now c.arcs.arcs.items c.push_named.new.arcs.items x c.in_ok-push_named.ensures.others (c.arcs.invariant x h)) (rw c.arcs-x-items.ensures at c.in_ok-push_named.ensures.here)

pub returns : goal.returns
returns c = λ x h. c.arcs.invariant x (take_whole c.args.net.now.arcs c.arcs.x-index x (rw c.arcs-x-items.ensures at c.arcs-test.false) h)
