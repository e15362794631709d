use Rattle.std.proofs.Common.{arith}
use Rattle.xs_meet.specs.Closed.{Marked}
use Rattle.xs_closed.specs.Rows.{marked}
use Rattle.xs_closed.specs.Search.{LeadsBy}
use Rattle.xs_closed.proofs.CloseLemmas.{for_more, inside_at, goes_none, goes_more, goes_all}
use Rattle.xs_closed.proofs.LeadLemmas.{led_empty, led_all}
use Rattle.xs_closed.proofs.spread.close.Goals as goal
use Rattle.xs_closed.proofs.spread.close.Goals.{in-Empty, in-Every+in_ok-stride-in-Every}

pub places-init : goal.places-init
places-init c = record {
  listed = c.requires.listed;
  goes = goes_none (LeadsBy c.args.moves (Marked (marked c.args.related.now)) c.args.m.now c.args.n.now) c.args.set.now c.args.pairs.now.items;
}

pub returns-then-place-len-clause-ok : goal.returns-then-place-len-clause-ok
returns-then-place-len-clause-ok c = goes_all (LeadsBy c.args.moves (Marked (marked c.args.related.now)) c.args.m.now c.args.n.now) (omega (arith, c.if-place-len.true, c.len.ensures, c.places.pairs.ok)) c.places.invariant.listed c.places.invariant.goes

pub drift-requires-clause-at : goal.drift-requires-clause-at
drift-requires-clause-at c = inside_at c.args.m.now c.args.n.now c.places.set c.places.pairs.items c.places.place c.index-at.result.now (for_more c.requires.nets c.places.invariant.goes.size) c.places.invariant.listed (omega (arith, c.if-place-len.false, c.len.ensures, c.places.pairs.ok)) c.index-at.ensures

pub stride-requires-clause-at : goal.stride-requires-clause-at
stride-requires-clause-at c = inside_at c.args.m.now c.args.n.now c.places.set c.places.pairs.items c.places.place c.index-at.result.now (for_more c.requires.nets c.places.invariant.goes.size) c.places.invariant.listed (omega (arith, c.if-place-len.false, c.len.ensures, c.places.pairs.ok)) c.index-at.ensures

pub places-preserved : goal.places-preserved
places-preserved c =
    let p = c.index-at.result.now in
    let drifted = c.in_ok-drift.ensures in
    elim c.match-moves.branch [
      | in-Empty w ↦ rw (w.set-is, w.pairs-is) (record {
        listed = drifted.listed;
        goes = goes_more (LeadsBy c.args.moves (Marked (marked c.args.related.now)) c.args.m.now c.args.n.now) p (omega (arith, c.if-place-len.false, c.len.ensures, c.places.pairs.ok)) c.index-at.ensures c.places.invariant.listed drifted.listed c.places.invariant.goes (led_empty c.args.moves (Marked (marked c.args.related.now)) c.args.m.now c.args.n.now p.first p.second w.in-Empty.is drifted.ok);
      })
      | in-Every+in_ok-stride-in-Every w ↦ rw (w.set-is, w.pairs-is) (record {
        listed = w.in_ok-stride-in-Every.ensures.listed;
        goes = goes_more (LeadsBy c.args.moves (Marked (marked c.args.related.now)) c.args.m.now c.args.n.now) p (omega (arith, c.if-place-len.false, c.len.ensures, c.places.pairs.ok)) c.index-at.ensures c.places.invariant.listed w.in_ok-stride-in-Every.ensures.listed c.places.invariant.goes (led_all c.args.moves (Marked (marked c.args.related.now)) c.args.m.now c.args.n.now p.first p.second w.in-Every.is drifted.ok w.in_ok-stride-in-Every.ensures.ok);
      })
    ]

pub returns-clause-ok : goal.returns-clause-ok
returns-clause-ok c = goes_all (LeadsBy c.args.moves (Marked (marked c.args.related.now)) c.args.m.now c.args.n.now) (omega (arith, c.places-test.false, c.places.pairs.ok)) c.places.invariant.listed c.places.invariant.goes
