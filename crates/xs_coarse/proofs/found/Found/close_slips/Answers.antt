use Rattle.std.proofs.Common.{arith}
use Rattle.xs_coarse.specs.Arcs.{Slips}
use Rattle.xs_coarse.proofs.FoundLemmas.{found_inside}
use Rattle.xs_coarse.proofs.GrowthLemmas.{more_same, more_then, closed_more, closed_all, read_at}
use Rattle.xs_coarse.proofs.found.Found.close_slips.Goals as goal

pub places-init : goal.places-init
places-init c = record {
  more = more_same c.args.self.now c.requires.fits;
  closed = λ i p l. absurd (omega arith);
}

pub slip-requires-clause-at : goal.slip-requires-clause-at
slip-requires-clause-at c = found_inside c.args.first.now c.args.second.now c.args.self.now c.places.self c.places.place c.index-at.result.now c.requires.nets c.places.invariant.more (omega (arith, c.if-place-len.false, c.len.ensures, c.places.self.pairs.ok)) c.index-at.ensures

pub places-preserved : goal.places-preserved
places-preserved c =
    let known = c.places.invariant in
    let p = c.index-at.result.now in
    let here = read_at c.places.self.pairs.items c.places.place p (omega (arith, c.if-place-len.false, c.len.ensures, c.places.self.pairs.ok)) c.index-at.ensures in
    record {
      more = more_then known.more c.slip.ensures.more;
      closed = closed_more (Slips c.args.first.now c.args.second.now) p here known.closed c.slip.ensures.more c.in_ok-slip.ensures.ok;
    }

pub returns-then-place-len-clause-ok : goal.returns-then-place-len-clause-ok
returns-then-place-len-clause-ok c = λ _. closed_all (Slips c.args.first.now c.args.second.now) c.places.place c.places.self (omega (arith, c.if-place-len.true, c.len.ensures, c.places.self.pairs.ok)) c.places.invariant.closed
