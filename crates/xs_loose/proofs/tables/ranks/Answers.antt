use Rattle.std.proofs.Common.{◌<◌, arith}
use Rattle.xs_loose.proofs.Pushing.{element_is}
use Rattle.xs_loose.proofs.Ranking.{ranked_none, ranked_more}
use Rattle.xs_loose.proofs.tables.ranks.Goals as goal

pub nons-init : goal.nons-init
nons-init c = ranked_none c.args.g.now c.args.comps.now c.in_ok-counts.counts.items c.in_ok-ranks.ranks.items c.args.count (c.in_ok-counts.ensures.items_if_clones_equal (λ y e. e)) c.in_ok-ranks.ensures.items

pub nons-preserved : goal.nons-preserved
nons-preserved c =
    let low : c.nons.non < c.args.g.now.nons = omega (arith, c.nons-test.true, c.nons-non-end.ensures) in
    ranked_more c.args.g.now c.args.comps.now c.requires.comps c.args.count c.nons.non low (c.requires.below c.nons.non low) c.nons.counts.items c.nons.ranks.items c.nons.invariant c.at.result.now c.index-rank.result.now (element_is c.args.comps.now c.nons.non c.at.result.now 0 c.at.ensures) c.index-rank.ensures _ c.in_ok-push.ensures.items
