use Rattle.std.proofs.Common.{refl, arith}
use Rattle.xs_searches.proofs.Insides.{inside_part, group_counts, nothing_counts}
use Rattle.xs_searches.proofs.weights.inside_count.Goals as goal

pub weight_by-requires-clause-part : goal.weight_by-requires-clause-part
weight_by-requires-clause-part c = inside_part c.args.g.now c.args.rule c.args.place c.in-Some.partner c.requires.rule c.in-Some.ensures.some

pub returns-in-Some : goal.returns-in-Some
returns-in-Some c = group_counts c.args.g.now c.requires.built c.args.rule c.args.place c.in-Some.partner c.weight_by.result c.min.result c.in-Some.ensures.some c.weight_by.ensures (omega (arith, c.min.ensures))

pub returns-in-None : goal.returns-in-None
returns-in-None c = nothing_counts c.args.g.now c.args.rule c.args.place (c.in-None.ensures.none.0 refl)
