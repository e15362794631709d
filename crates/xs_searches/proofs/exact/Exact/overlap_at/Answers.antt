use Rattle.xs_searches.proofs.Cutting.{overlap_shows}
use Rattle.xs_searches.proofs.exact.Exact.overlap_at.Goals as goal

pub returns-clause-some : goal.returns-clause-some
returns-clause-some c = overlap_shows _ _ _ _ _ c.requires.rule c.requires.low c.requires.high c.in_ok-nets.ensures c.overlap.result c.overlap.ensures.some
