use Rattle.std.proofs.Common.{◌∙◌, sym, ap, refl, Some, below_more, arith}
use Rattle.std.proofs.lemmas.Bool.{false≢true}
use Rattle.xs_graph.proofs.Cycling.{targets_numbered, cyclic_here, not_cyclic, none_cyclic, acyclic_falls}
use Rattle.xs_graph.proofs.cycle.first_cyclic.Goals as goal

pub has_number-requires : goal.has_number-requires
has_number-requires c = targets_numbered c.args.graph.now c.as_slice.result.now c.args.numbers.now c.nodes.node c.requires.targets c.requires.components (c.at-targets.ensures ∙ ap Some (sym c.as_slice.ensures))

pub returns-then-has_number-clause-some : goal.returns-then-has_number-clause-some
returns-then-has_number-clause-some c = record {
  cyclic = cyclic_here c.args.graph.now c.as_slice.result.now c.args.numbers.now c.nodes.node c.at-number.result.now c.requires.targets c.requires.components (c.at-targets.ensures ∙ ap Some (sym c.as_slice.ensures)) c.at-number.ensures (c.if-has_number.ensures.0 refl);
  first = c.nodes.invariant.none;
}

pub nodes-preserved : goal.nodes-preserved
nodes-preserved c = record {
  none = below_more _ _ c.nodes.invariant.none (not_cyclic c.args.graph.now c.as_slice.result.now c.args.numbers.now c.nodes.node c.at-number.result.now c.requires.targets c.requires.components (c.at-targets.ensures ∙ ap Some (sym c.as_slice.ensures)) c.at-number.ensures (λ h. false≢true (c.if-has_number.ensures.1 h)));
}

pub returns-clause-none : goal.returns-clause-none
returns-clause-none c = none_cyclic c.args.graph.now c.nodes.node (omega (arith, c.len-node-end.ensures, c.nodes-test.false)) c.nodes.invariant.none

pub returns-clause-falls : goal.returns-clause-falls
returns-clause-falls c = acyclic_falls c.args.graph.now c.args.numbers.now c.requires.targets c.requires.components (none_cyclic c.args.graph.now c.nodes.node (omega (arith, c.len-node-end.ensures, c.nodes-test.false)) c.nodes.invariant.none)
