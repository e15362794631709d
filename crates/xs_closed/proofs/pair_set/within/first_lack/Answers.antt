use Rattle.xs_closed.proofs.WordLemmas.{first_lacking, none_lacking}
use Rattle.xs_closed.proofs.pair_set.within.first_lack.Goals as goal

pub returns-then-lacking-eq0-clause-none : goal.returns-then-lacking-eq0-clause-none
returns-then-lacking-eq0-clause-none c = none_lacking c.args.word c.args.other c.ranges.other.fits c.if-lacking-eq0.true

pub returns-clause-some : goal.returns-clause-some
returns-clause-some c = first_lacking c.args.word c.args.other c.ranges.word.fits c.ranges.other.fits c.if-lacking-eq0.false
