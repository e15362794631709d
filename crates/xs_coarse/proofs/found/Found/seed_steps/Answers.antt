use Rattle.xs_coarse.specs.Found.{pair}
use Rattle.xs_coarse.proofs.GrowthLemmas.{more_found}
use Rattle.xs_coarse.proofs.Walks.{walk_more, walk_all}
use Rattle.xs_coarse.proofs.found.Found.seed_steps.Goals as goal

pub step-requires-clause-at : goal.step-requires-clause-at
step-requires-clause-at c = c.requires.inside c.pairs.pair-index _ c.pairs-test.true

pub pairs-preserved : goal.pairs-preserved
pairs-preserved c = walk_more (pair 0 0) c.step.new.self (λ p steps a b s. more_found c.step.ensures.more a b (steps a b s)) c.pairs.invariant c.pairs-test.true c.step.ensures.more c.in_ok-step.ensures.ok

pub returns-clause-ok : goal.returns-clause-ok
returns-clause-ok c = walk_all c.pairs.invariant c.pairs-test.false
