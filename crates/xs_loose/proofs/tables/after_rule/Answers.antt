use Rattle.std.proofs.Common.{arith}
use Rattle.xs_loose.proofs.Counting.{groups_few}
use Rattle.xs_loose.proofs.Numbering.{number_low}
use Rattle.xs_loose.proofs.tables.after_rule.Goals as goal

pub after_place-number-requires-clause-low : goal.after_place-number-requires-clause-low
after_place-number-requires-clause-low c = omega (arith, c.items.invariant, groups_few c.args.g.now c.requires.built, number_low c.args.g.now c.args.rule c.items.place c.requires.rule)
