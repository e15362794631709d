use Rattle.std.proofs.Common.{arith}
use Rattle.xs_coarse.specs.Arcs.{Goes}
use Rattle.xs_coarse.proofs.ArcLemmas.{goes_on}
use Rattle.xs_coarse.proofs.FoundLemmas.{found_inside}
use Rattle.xs_coarse.proofs.GrowthLemmas.{more_same, more_then, more_found, closed_more, without_more, shut_all, read_at, other_pair}
use Rattle.xs_coarse.proofs.found.Found.close.Goals as goal

pub places-init : goal.places-init
places-init c = record {
  more = more_same c.args.self.now c.requires.fits;
  closed = λ i p l. absurd (omega arith);
  without = λ i l. absurd (omega arith);
}

pub slip-requires-clause-at : goal.slip-requires-clause-at
slip-requires-clause-at c = found_inside c.args.first.now c.args.second.now c.args.self.now c.places.self c.places.place c.index.result.now c.requires.nets c.places.invariant.more (omega (arith, c.if-place-len.false, c.len.ensures, c.places.self.pairs.ok)) c.index.ensures

pub step-requires-clause-at : goal.step-requires-clause-at
step-requires-clause-at c = found_inside c.args.first.now c.args.second.now c.args.self.now c.places.self c.places.place c.index.result.now c.requires.nets c.places.invariant.more (omega (arith, c.if-place-len.false, c.len.ensures, c.places.self.pairs.ok)) c.index.ensures

pub places-preserved : goal.places-preserved
places-preserved c =
    let L = Goes c.args.labels.now c.args.first.now c.args.second.now in
    let known = c.places.invariant in
    let p = c.index.result.now in
    let here = read_at c.places.self.pairs.items c.places.place p (omega (arith, c.if-place-len.false, c.len.ensures, c.places.self.pairs.ok)) c.index.ensures in
    let more = more_then c.slip.ensures.more c.step.ensures.more in
    let goes = goes_on c.args.labels.now c.args.first.now c.args.second.now p.first p.second c.slip.new.self c.step.new.self (more_found c.step.ensures.more) c.in_ok-slip.ensures.ok c.in_ok-step.ensures.ok in
    record {
      more = more_then known.more more;
      closed = closed_more L p here known.closed more goes;
      without = without_more c.args.goal p here known.without more (other_pair p c.args.goal c.if-eq.ensures);
    }

pub returns-then-place-len-clause-ok : goal.returns-then-place-len-clause-ok
returns-then-place-len-clause-ok c = λ _. shut_all (Goes c.args.labels.now c.args.first.now c.args.second.now) c.args.goal c.places.place c.places.self c.places.invariant.more.fits (omega (arith, c.if-place-len.true, c.len.ensures, c.places.self.pairs.ok)) c.places.invariant.closed c.places.invariant.without
