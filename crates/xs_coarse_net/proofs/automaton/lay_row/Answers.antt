use Rattle.std.proofs.Common.{ℕ, get_or}
use Rattle.std.proofs.lemmas.List.Elements.{Contains-get_or}
use Rattle.xs_coarse.specs.Coarse.{HasArc}
use Rattle.xs_coarse_net.proofs.Going.{grows_none, grows_on}
use Rattle.xs_coarse_net.proofs.Laying.{row_more}
use Rattle.xs_coarse_net.proofs.Rows.{take_none, take_whole}
use Rattle.xs_coarse_net.proofs.automaton.lay_row.Goals as goal

pub targets-init : goal.targets-init
targets-init c = record {
  grows = grows_none;
  arcs = take_none (λ (k : ℕ). HasArc c.args.draft.now c.args.from (get_or c.args.labels.now k 0) (get_or c.args.states.now k 0)) c.args.targets.now;
}

pub bounds-labels-place : goal.bounds-labels-place
bounds-labels-place c = c.requires.labels (get_or c.args.targets.now c.targets.target-index 0) (Contains-get_or c.args.targets.now c.targets.target-index 0 c.targets-test.true)

pub bounds-states-place : goal.bounds-states-place
bounds-states-place c = c.requires.states (get_or c.args.targets.now c.targets.target-index 0) (Contains-get_or c.args.targets.now c.targets.target-index 0 c.targets-test.true)

pub targets-preserved : goal.targets-preserved
targets-preserved c = record {
  grows = grows_on c.targets.invariant.grows c.in_ok-add.ensures.grows;
  arcs = row_more c.targets.draft _ c.args.from c.args.labels.now c.args.states.now c.args.targets.now c.targets.target-index c.targets-test.true c.targets.invariant.arcs c.in_ok-add.ensures;
}

pub returns-clause-arcs : goal.returns-clause-arcs
returns-clause-arcs c = λ k h. c.targets.invariant.arcs k (take_whole c.args.targets.now c.targets.target-index k c.targets-test.false h)
