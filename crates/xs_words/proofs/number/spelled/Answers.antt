use Rattle.std.proofs.Common.{arith}
use Rattle.xs_words.proofs.Digits.{passed}
use Rattle.xs_words.proofs.number.spelled.Goals as goal

pub returns-then-number-from-clause-number : goal.returns-then-number-from-clause-number
returns-then-number-from-clause-number c = passed c.args.bytes.now c.digits.byte-index c.digits.number c.args.least c.args.most c.digits.invariant.1 (omega arith) (omega arith)
