use Rattle.xs_coarse.proofs.Walks.{walk_more, walk_all, given_stays}
use Rattle.xs_coarse.proofs.found.Found.visit_each.Goals as goal

pub items-preserved : goal.items-preserved
items-preserved g c =
    let more = c.visit_if.ensures.more in
    walk_more c.item-item.result c.visit_if.new.self (λ x h. given_stays more h) c.items.invariant c.items-test.true more (rw (← c.item-item.is) (record { target = c.target.result; given = c.target.ensures; there = c.in_ok-visit_if.ensures.ok }))

pub returns-clause-ok : goal.returns-clause-ok
returns-clause-ok g c = record { each = walk_all c.items.invariant c.items-test.false }
