use Rattle.std.proofs.Common.{◌<◌, ◌^◌, sym, ◌∙◌, ap, arith}
use Rattle.xs_earley.specs.declared.rows.Row.{Row}
use Rattle.xs_earley.proofs.Arrivals.{word_few}
use Rattle.xs_earley.proofs.arrive.read_on.Goals as goal

pub overflow_add-from : goal.overflow_add-from
overflow_add-from c =
    let few : c.in-AtWord.from < 2 ^ 63 = word_few c.requires.facts.0 c.args.facts.now c.requires.facts.1 c.args.begun.state c.requires.state c.in-AtWord.from c.in-AtWord.end (sym (ap (λ (r : Row). r.stand) c.row-row.ensures) ∙ c.in-AtWord.is) in
    let count = c.requires.count in
    omega (arith, few, count)

pub read_letter-requires : goal.read_letter-requires
read_letter-requires c =
    let few : c.in-AtWord.from < 2 ^ 63 = word_few c.requires.facts.0 c.args.facts.now c.requires.facts.1 c.args.begun.state c.requires.state c.in-AtWord.from c.in-AtWord.end (sym (ap (λ (r : Row). r.stand) c.row-row.ensures) ∙ c.in-AtWord.is) in
    let count = c.requires.count in
    omega (arith, few, count)
