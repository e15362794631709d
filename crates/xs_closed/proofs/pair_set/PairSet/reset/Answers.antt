use Rattle.xs_closed.proofs.WordLemmas.{blank_grid}
use Rattle.xs_closed.proofs.pair_set.PairSet.reset.Goals as goal

pub returns-clause-ok : goal.returns-clause-ok
returns-clause-ok c = blank_grid c.args.high c.args.wide _ _ c.grow_words.ensures.zeros
