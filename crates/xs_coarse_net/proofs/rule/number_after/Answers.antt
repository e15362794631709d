use Rattle.std.proofs.Common.{arith}
use Rattle.xs_gram.specs.Fences.{spread}
use Rattle.xs_loose.proofs.Numbering.{left_counts, other_counts}
use Rattle.xs_coarse_net.proofs.rule.number_after.Goals as goal

pub returns-else-number-eq4294967295 : goal.returns-else-number-eq4294967295
returns-else-number-eq4294967295 c = let g = c.args.site.now.g.now in omega (arith, c.requires.number, left_counts g.fences (spread g c.args.rule) c.args.place _ c.in-Some.ensures.some)

pub returns-in-None : goal.returns-in-None
returns-in-None c = let g = c.args.site.now.g.now in omega (arith, c.requires.number, other_counts g.fences (spread g c.args.rule) c.args.place c.requires.place (c.partner.ensures.none.0 c.in-None.is))
