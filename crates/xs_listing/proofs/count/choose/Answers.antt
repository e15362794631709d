use Rattle.std.proofs.Common.{length, arith}
use Rattle.xs_forest_laws.proofs.Counts.{alts_count-is}
use Rattle.xs_listing.proofs.Sums.{next, chosen_here}
use Rattle.xs_listing.proofs.count.choose.Goals as goal

pub alts-init : goal.alts-init
alts-init c =
    let is = alts_count-is c.args.cap c.args.counts.now c.args.alts.now in
    let within = c.requires.within in
    record { ahead = omega arith; earlier = c.requires.earlier; after = omega arith }

pub alts-preserved : goal.alts-preserved
alts-preserved c =
    let r = next c.args.cap c.args.counts.now c.args.alts.now c.alts.alt-index c.alts.rest c.args.number (length c.args.counts.now) _ c.one_count-count.result (omega arith) c.alts.invariant.ahead c.alts.invariant.earlier c.alts.invariant.after c.one_count-count.ensures c.if-rest-count.false in
    record { ahead = r.0; earlier = r.1; after = r.2 }

pub returns-then-rest-count : goal.returns-then-rest-count
returns-then-rest-count c =
    (c.alts.alt-index, chosen_here c.args.cap c.args.counts.now c.args.alts.now c.alts.alt-index c.alts.rest c.args.number _ c.one_count-count.result c.child_count-width.result (omega arith) c.alts.invariant.after c.one_count-count.ensures c.child_count-width.ensures c.if-rest-count.true)
