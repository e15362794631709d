use Rattle.std.proofs.Common.{◌∙◌, sym, arith}
use Rattle.std.proofs.lemmas.Option.{get_or_from_slice_get}
use Rattle.xs_meet.specs.Searches.{Among, Meets}
use Rattle.xs_meet.proofs.GainLemmas.{extends_read, extends_all}
use Rattle.xs_meet.proofs.layer.Layer.visit_boths.Goals as goal

pub edges-preserved : goal.edges-preserved
edges-preserved c = record {
  cells = c.visit_ends.ensures.cells ∙ c.edges.invariant.cells;
  fits = c.in_ok-visit_ends.ensures.fits;
  more = extends_read (λ e. Among c.args.others.now (λ f. Meets e f c.args.from)) c.args.edges.now c.edges.place c.edge-edge.result (omega (arith, c.len-place-end.ensures, c.edges-test.true)) (sym (get_or_from_slice_get c.args.edges.now c.edges.place c.edge-edge.result c.edge-edge.result c.edge-edge.ensures)) c.edges.invariant.more c.in_ok-visit_ends.ensures.ok;
}

pub returns-clause-ok : goal.returns-clause-ok
returns-clause-ok c = extends_all (λ e. Among c.args.others.now (λ f. Meets e f c.args.from)) c.args.edges.now c.edges.place (omega (arith, c.len-place-end.ensures, c.edges-test.false)) c.edges.invariant.more
