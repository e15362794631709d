use Rattle.xs_searches.proofs.Lightness.{nest_not_heavy}
use Rattle.xs_searches.proofs.nets.Site.nest.Goals as goal

pub unreachable-requires : goal.unreachable-requires
unreachable-requires c = nest_not_heavy c.args.self.now.g.now c.requires.built c.in-Err-Heavy.field-0-0 c.requires.light (rw c.in-Err-Heavy.field-0-is at c.in-Err-Heavy.ensures.fault)
