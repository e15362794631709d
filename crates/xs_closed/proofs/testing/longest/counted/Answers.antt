use Rattle.std.proofs.Common.{◌∙◌, sym, ap, ◌+◌, arith}
use Rattle.xs_closed.proofs.LongestLemmas.{rank_few, rank_some, rank_same}
use Rattle.xs_closed.proofs.testing.longest.counted.Goals as goal

pub overflow_add-result : goal.overflow_add-result
overflow_add-result c = omega (arith, c.requires.count, c.requires.few, rank_few c.args.set.now c.args.a)

pub returns-in-Some : goal.returns-in-Some
returns-in-Some c = ap (λ n. n + 1) c.requires.count ∙ sym (rank_some c.args.set.now c.args.a c.in-Some.field-0 c.requires.row c.in-Some.ensures.some.there)

pub returns-in-None : goal.returns-in-None
returns-in-None c = c.requires.count ∙ sym (rank_same c.args.set.now c.args.a c.requires.row (λ b. c.in-None.ensures.none b (omega arith)))
