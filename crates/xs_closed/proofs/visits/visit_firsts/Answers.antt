use Rattle.xs_closed.specs.Search.{IsPair}
use Rattle.xs_closed.proofs.AddLemmas.{adds_none, adds_more, adds_all}
use Rattle.xs_closed.proofs.visits.visit_firsts.Goals as goal

pub firsts-init : goal.firsts-init
firsts-init c = record { listed = c.requires.listed; more = adds_none (λ a. IsPair a c.args.second) c.args.set.now c.args.pairs.now.items }

pub firsts-preserved : goal.firsts-preserved
firsts-preserved c = record {
  listed = c.in_ok-visit.ensures.listed;
  more = adds_more (λ a. IsPair a c.args.second) c.args.firsts.now c.firsts.first-index 0 c.firsts-test.true c.firsts.invariant.more c.in_ok-visit.ensures.ok;
}

pub returns-clause-ok : goal.returns-clause-ok
returns-clause-ok c = adds_all (λ a. IsPair a c.args.second) c.args.firsts.now c.firsts.first-index c.firsts-test.false c.firsts.invariant.more
