use Rattle.std.proofs.Common.{◌≡◌, ◌<◌, sym, arith, length, get_or}
use Rattle.std.proofs.lemmas.Option.{get_or_from_slice_get}
use Rattle.xs_closed.specs.Search.{Meets}
use Rattle.xs_closed.proofs.AddLemmas.{adds_none, adds_read, adds_all}
use Rattle.xs_closed.proofs.LeadLemmas.{meets_new, meets_old}
use Rattle.xs_closed.proofs.visits.visit_ends.Goals as goal
use Rattle.xs_closed.proofs.visits.visit_ends.Goals.{then-is_new+in_ok-visit, else-is_new}

pub others-init : goal.others-init
others-init c = record { listed = c.requires.listed; more = adds_none (Meets c.args.edge.now) c.args.set.now c.args.pairs.now.items }

pub others-preserved : goal.others-preserved
others-preserved c =
    let e = c.args.edge.now in
    let f = c.edge-other.result in
    let there : c.others.place < length c.args.others.now = omega (arith, c.len-place-end.ensures, c.others-test.true) in
    let is : f ≡ get_or c.args.others.now c.others.place f = sym (get_or_from_slice_get c.args.others.now c.others.place f f c.edge-other.ensures) in
    elim c.if-is_new.branch [
      | then-is_new+in_ok-visit w ↦ rw (w.set-is, w.pairs-is) (record {
        listed = w.in_ok-visit.ensures.listed;
        more = adds_read (Meets e) c.args.others.now c.others.place f there is c.others.invariant.more (meets_new e f (c.is_new.ensures.meet w.if-is_new.true) (rw (w.to-first.ensures, w.to-second.ensures) at w.in_ok-visit.ensures.ok));
      })
      | else-is_new w ↦ rw (w.set-is, w.pairs-is) (record {
        listed = c.others.invariant.listed;
        more = adds_read (Meets e) c.args.others.now c.others.place f there is c.others.invariant.more (meets_old e f c.others.set c.others.pairs.items (c.is_new.ensures.known w.if-is_new.false));
      })
    ]

pub returns-clause-ok : goal.returns-clause-ok
returns-clause-ok c = adds_all (Meets c.args.edge.now) c.args.others.now c.others.place (omega (arith, c.len-place-end.ensures, c.others-test.false)) c.others.invariant.more
