use Rattle.xs_coarse.specs.declared.arc.Arc.{Arc}
use Rattle.xs_coarse_net.specs.Reaching.{IsUsed}
use Rattle.xs_coarse_net.proofs.Rows.{take_each, take_whole}
use Rattle.xs_coarse_net.proofs.whole.uses_of.Goals as goal

pub arcs-preserved : goal.arcs-preserved
arcs-preserved c = take_each (λ (x : Arc). IsUsed c.push_use.new.arcs.items x) c.args.net.now.arcs c.arcs.x-index _ (rw c.arcs-x-items.ensures at c.arcs-test.true) (λ x h high. c.in_ok-push_use.ensures.others _ (c.arcs.invariant x h high)) (rw c.arcs-x-items.ensures at c.in_ok-push_use.ensures.here)

pub returns : goal.returns
returns c = λ x h high. c.in_ok-uses.ensures.kept _ (c.arcs.invariant x (take_whole c.args.net.now.arcs c.arcs.x-index x (rw c.arcs-x-items.ensures at c.arcs-test.false) h) high)
