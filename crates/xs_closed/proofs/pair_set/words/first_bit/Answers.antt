use Rattle.std.proofs.Common.{arith}
use Rattle.xs_closed.proofs.WordLemmas.{no_bit, low_bit}
use Rattle.xs_closed.proofs.pair_set.words.first_bit.Goals as goal

pub returns-then-left-eq0-clause-none : goal.returns-then-left-eq0-clause-none
returns-then-left-eq0-clause-none c = no_bit c.args.word c.args.from c.if-left-eq0.true

pub returns-clause-some : goal.returns-clause-some
returns-clause-some c = low_bit c.args.word c.args.from c.ranges.word.fits (omega arith)
