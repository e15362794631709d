use Rattle.std.proofs.Common.{refl, arith}
use Rattle.xs_meet.specs.Closed.{Drifts}
use Rattle.xs_meet.specs.Searches.{DriftsFrom}
use Rattle.xs_meet.proofs.SpreadLemmas.{read_at, in_nets, goes_none, goes_more, drifted_none, drifted_more, closed_all}
use Rattle.xs_meet.proofs.layer.Layer.close_drifts.Goals as goal

pub places-init : goal.places-init
places-init c = record {
  goes = goes_none (Drifts c.args.first.now c.args.second.now) c.args.self.now c.args.pairs.now c.requires.fits;
  drifted = drifted_none c.args.first.now c.args.second.now c.args.self.now.steps.items;
}

pub returns-then-place-len-clause-ok : goal.returns-then-place-len-clause-ok
returns-then-place-len-clause-ok c =
    let goes = c.places.invariant.goes in
    record {
      area = goes.area;
      longer = goes.longer;
      drifted = c.places.invariant.drifted;
      closed = closed_all (Drifts c.args.first.now c.args.second.now) (omega (arith, c.if-place-len.true, c.len.ensures, c.places.self.steps.ok)) goes.closed;
    }

pub drift-requires-clause-first : goal.drift-requires-clause-first
drift-requires-clause-first c =
    let here = read_at c.places.self.steps.items c.places.place c.index-at.result.now (omega (arith, c.if-place-len.false, c.len.ensures, c.places.self.steps.ok)) c.index-at.ensures in
    (in_nets c.args.first.now c.args.second.now c.places.pairs c.places.place c.index-at.result.now c.requires.nets c.places.invariant.goes.area c.places.invariant.goes.fits here).0

pub drift-requires-clause-second : goal.drift-requires-clause-second
drift-requires-clause-second c =
    let here = read_at c.places.self.steps.items c.places.place c.index-at.result.now (omega (arith, c.if-place-len.false, c.len.ensures, c.places.self.steps.ok)) c.index-at.ensures in
    (in_nets c.args.first.now c.args.second.now c.places.pairs c.places.place c.index-at.result.now c.requires.nets c.places.invariant.goes.area c.places.invariant.goes.fits here).1

pub places-preserved : goal.places-preserved
places-preserved c =
    let s = c.index-at.result.now in
    let here = read_at c.places.self.steps.items c.places.place s (omega (arith, c.if-place-len.false, c.len.ensures, c.places.self.steps.ok)) c.index-at.ensures in
    record {
      goes = goes_more (Drifts c.args.first.now c.args.second.now) (DriftsFrom c.args.first.now c.args.second.now s.first s.second s.from) s.from s here (λ x y l. record { origin = refl; drifts = l }) c.places.invariant.goes c.drift.ensures.cells c.in_ok-drift.ensures.fits c.in_ok-drift.ensures.ok;
      drifted = drifted_more c.places.place s here c.places.invariant.drifted c.in_ok-drift.ensures.ok.gains;
    }
