use Rattle.std.proofs.Common.{ap, arith, length}
use Rattle.xs_order.proofs.Live.{word_by_last}
use Rattle.xs_order.proofs.words.has_word.Goals as goal

pub some_marked-answer-requires : goal.some_marked-answer-requires
some_marked-answer-requires c = λ k h. omega (arith, c.requires.formed.last_in k (rw c.as_slice-2.ensures at h), ap length c.as_slice.ensures, c.in_ok-reached.ensures.counted)

pub returns : goal.returns
returns c = word_by_last c.args.automaton.now c.in_ok-reached.reached c.some_marked-answer.result c.requires.formed c.if-automaton.false c.in_ok-reached.ensures (rw (c.as_slice.ensures, c.as_slice-2.ensures) at c.some_marked-answer.ensures)
