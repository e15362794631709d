use Rattle.std.proofs.Common.{length, ap, arith}
use Rattle.xs_loose.proofs.Nesting.{groups_next}
use Rattle.xs_loose.proofs.nest.add_groups.Goals as goal

pub returns-clause-nest : goal.returns-clause-nest
returns-clause-nest c = groups_next c.args.site.now.g.now c.args.rule c.items.place c.items.nest (omega (arith, c.items-test.false, ap length c.spread.ensures.items)) c.items.invariant
