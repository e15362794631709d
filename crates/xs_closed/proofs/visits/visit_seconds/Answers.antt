use Rattle.xs_closed.specs.Search.{IsPair}
use Rattle.xs_closed.proofs.AddLemmas.{adds_none, adds_more, adds_all}
use Rattle.xs_closed.proofs.visits.visit_seconds.Goals as goal

pub seconds-init : goal.seconds-init
seconds-init c = record { listed = c.requires.listed; more = adds_none (λ b. IsPair c.args.first b) c.args.set.now c.args.pairs.now.items }

pub seconds-preserved : goal.seconds-preserved
seconds-preserved c = record {
  listed = c.in_ok-visit.ensures.listed;
  more = adds_more (λ b. IsPair c.args.first b) c.args.seconds.now c.seconds.second-index 0 c.seconds-test.true c.seconds.invariant.more c.in_ok-visit.ensures.ok;
}

pub returns-clause-ok : goal.returns-clause-ok
returns-clause-ok c = adds_all (λ b. IsPair c.args.first b) c.args.seconds.now c.seconds.second-index c.seconds-test.false c.seconds.invariant.more
