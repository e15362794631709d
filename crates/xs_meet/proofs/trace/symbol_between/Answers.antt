use Rattle.std.proofs.Common.{sym, ◌∙◌, arith}
use Rattle.std.proofs.lemmas.Option.{get_or_from_slice_get}
use Rattle.std.proofs.lemmas.List.{take_all}
use Rattle.xs_meet.specs.Searches.{ReadsWith}
use Rattle.xs_meet.proofs.TraceLemmas.{reads_more, reads_not, none_reads, some_reads}
use Rattle.xs_meet.proofs.trace.symbol_between.Goals as goal
use Rattle.xs_meet.proofs.trace.symbol_between.Goals.{then-target-to+else-is_some, else-target-to}

pub returns-then-is_some-clause-some : goal.returns-then-is_some-clause-some
returns-then-is_some-clause-some c =
    some_reads c.args.first.now c.args.second.now c.args.from.first c.args.from.second c.args.to.first c.args.to.second c.edges.place c.edges-edges.result c.edges-others.result c.edge-edge.result c.symbol_with-symbol.result c.edges-edges.ensures.value c.edges-others.ensures.value (omega (arith, c.len-place-end.ensures, c.edges-test.true)) (sym (get_or_from_slice_get c.edges-edges.result c.edges.place c.edge-edge.result c.edge-edge.result c.edge-edge.ensures)) (sym c.to-target.ensures ∙ c.if-target-to.true) c.symbol_with-symbol.ensures.some

pub edges-preserved : goal.edges-preserved
edges-preserved c = record {
  none = reads_more c.edges-edges.result c.edges-others.result c.args.to.first c.args.to.second c.edges.place c.edge-edge.result (omega (arith, c.len-place-end.ensures, c.edges-test.true)) (sym (get_or_from_slice_get c.edges-edges.result c.edges.place c.edge-edge.result c.edge-edge.result c.edge-edge.ensures)) c.edges.invariant.none (elim c.if-target-to.branch [
    | then-target-to+else-is_some w ↦ λ e. none_reads (ReadsWith c.edge-edge.result c.edges-others.result c.args.to.second) w.symbol_with-symbol.result (sym w.is_some.ensures ∙ w.if-is_some.false) w.symbol_with-symbol.ensures.none
    | else-target-to w ↦ λ e. absurd (w.if-target-to.false (c.to-target.ensures ∙ e))
  ]);
}

pub returns-clause-none : goal.returns-clause-none
returns-clause-none c = reads_not c.args.first.now c.args.second.now c.args.from.first c.args.from.second c.args.to.first c.args.to.second c.edges-edges.result c.edges-others.result c.edges-edges.ensures.value c.edges-others.ensures.value (rw (take_all c.edges.place c.edges-edges.result (omega (arith, c.len-place-end.ensures, c.edges-test.false))) at c.edges.invariant.none)
