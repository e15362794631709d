use Rattle.std.proofs.Common.{◌<◌, arith}
use Rattle.xs_form.proofs.Numbers.{hex_low, hex_high}
use Rattle.xs_form.proofs.references.value_of.Goals as goal

pub overflow_sub-result : goal.overflow_sub-result
overflow_sub-result c = omega (arith, hex_low c.args.symbol c.requires)

pub overflow_sub-result-else-number-le70 : goal.overflow_sub-result-else-number-le70
overflow_sub-result-else-number-le70 c =
    let above : 70 < c.args.symbol = omega arith in
    omega (arith, (hex_high c.args.symbol c.requires above).0)

pub returns-else-number-le70-clause-bound : goal.returns-else-number-le70-clause-bound
returns-else-number-le70-clause-bound c =
    let above : 70 < c.args.symbol = omega arith in
    omega (arith, (hex_high c.args.symbol c.requires above).1)
