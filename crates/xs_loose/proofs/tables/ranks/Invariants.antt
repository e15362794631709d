use Rattle.xs_loose.proofs.Ranking.{AreRanked}
use Rattle.xs_loose.proofs.tables.ranks.Given as goal

abbrev pub invariant-nons : goal.invariant-nons
invariant-nons l = AreRanked l.g l.comps l.count l.non l.counts.items l.ranks.items
