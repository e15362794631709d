use Rattle.std.proofs.Common.{sym, arith}
use Rattle.std.proofs.lemmas.Option.{get_or_from_slice_get}
use Rattle.xs_closed.specs.Search.{OneOf, Meets}
use Rattle.xs_closed.proofs.AddLemmas.{adds_none, adds_read, adds_all}
use Rattle.xs_closed.proofs.visits.visit_boths.Goals as goal

pub edges-init : goal.edges-init
edges-init c = record { listed = c.requires.listed; more = adds_none (λ e. OneOf c.args.others.now (Meets e)) c.args.set.now c.args.pairs.now.items }

pub edges-preserved : goal.edges-preserved
edges-preserved c = record {
  listed = c.in_ok-visit_ends.ensures.listed;
  more = adds_read (λ e. OneOf c.args.others.now (Meets e)) c.args.edges.now c.edges.place c.edge-edge.result (omega (arith, c.len-place-end.ensures, c.edges-test.true)) (sym (get_or_from_slice_get c.args.edges.now c.edges.place c.edge-edge.result c.edge-edge.result c.edge-edge.ensures)) c.edges.invariant.more c.in_ok-visit_ends.ensures.ok;
}

pub returns-clause-ok : goal.returns-clause-ok
returns-clause-ok c = adds_all (λ e. OneOf c.args.others.now (Meets e)) c.args.edges.now c.edges.place (omega (arith, c.len-place-end.ensures, c.edges-test.false)) c.edges.invariant.more
