use Rattle.std.proofs.Common.{arith}
use Rattle.xs_gram.specs.Fences.{spread}
use Rattle.xs_loose.proofs.Numbering.{left_counts, other_counts}
use Rattle.xs_loose.proofs.tables.after_place.Goals as goal

pub returns-in-Some : goal.returns-in-Some
returns-in-Some c = omega (arith, c.requires.number, left_counts c.args.g.now.fences (spread c.args.g.now c.args.rule) c.args.place c.in-Some.field-0 c.in-Some.ensures.some)

pub returns-in-None : goal.returns-in-None
returns-in-None c = omega (arith, c.requires.number, other_counts c.args.g.now.fences (spread c.args.g.now c.args.rule) c.args.place c.requires.place (c.partner.ensures.none.0 c.in-None.is))
