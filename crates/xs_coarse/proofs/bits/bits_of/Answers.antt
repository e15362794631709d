use Rattle.std.proofs.Common.{arith}
use Rattle.xs_coarse.proofs.Labelling.{cells_at}
use Rattle.xs_coarse.proofs.bits.bits_of.Goals as goal

pub returns-clause-each : goal.returns-clause-each
returns-clause-each c = cells_at c.args.classes.now c.args.lefts.now c.args.width c.cells.bits.items (λ j lt. c.cells.invariant.each j (omega (arith, lt, c.cells-test.false)))
