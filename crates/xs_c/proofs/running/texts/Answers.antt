use Rattle.std.proofs.Common.{arith}
use Rattle.std.proofs.lemmas.Grind.{common_steps}
use Rattle.xs_c.proofs.running.texts.Goals as goal

pub returns-in_default : goal.returns-in_default
returns-in_default c = (c.words.word-index, _, grind (arith, common_steps, c.words-test.true), grind (arith, common_steps, c.words-test.true), c.in_default.ensures.cases.0)
