use Rattle.std.proofs.Common.{sym, ◌∙◌, arith}
use Rattle.std.proofs.lemmas.Option.{get_or_from_slice_get}
use Rattle.std.proofs.lemmas.List.{take_all}
use Rattle.xs_class.specs.Classes.{Has}
use Rattle.xs_meet.proofs.TraceLemmas.{with_more, none_common}
use Rattle.xs_meet.proofs.trace.symbol_with.Goals as goal
use Rattle.xs_meet.proofs.trace.symbol_with.Goals.{then-target-to+else-is_some, else-target-to}

pub others-preserved : goal.others-preserved
others-preserved c =
    let f = c.edge-other.result in
    record {
      none = with_more c.args.edge.now c.args.others.now c.args.to c.others.place f (omega (arith, c.len-place-end.ensures, c.others-test.true)) (sym (get_or_from_slice_get c.args.others.now c.others.place f f c.edge-other.ensures)) c.others.invariant.none (elim c.if-target-to.branch [
        | then-target-to+else-is_some w ↦ λ x h k e. none_common (Has c.args.edge.now.class) (Has f.class) w.first_common-symbol.result (sym w.is_some.ensures ∙ w.if-is_some.false) w.first_common-symbol.ensures.none x h k
        | else-target-to w ↦ λ x h k e. w.if-target-to.false (c.to-target.ensures ∙ e)
      ]);
    }

pub returns-clause-none : goal.returns-clause-none
returns-clause-none c = rw (take_all c.others.place c.args.others.now (omega (arith, c.len-place-end.ensures, c.others-test.false))) at c.others.invariant.none
