use Rattle.std.proofs.Common.{◌≢◌, ℕ, get_or}
use Rattle.std.proofs.lemmas.List.Elements.{Contains-get_or}
use Rattle.xs_coarse.specs.Coarse.{HasArc}
use Rattle.xs_coarse_net.proofs.Going.{grows_none, grows_on}
use Rattle.xs_coarse_net.proofs.Laying.{lasts_more}
use Rattle.xs_coarse_net.proofs.Rows.{take_none, take_whole}
use Rattle.xs_coarse_net.proofs.automaton.lay_lasts.Goals as goal

pub lasts-init : goal.lasts-init
lasts-init c = record {
  grows = grows_none;
  arcs = take_none (λ (k : ℕ). get_or c.args.states.now k 0 ≢ c.args.to → HasArc c.args.draft.now (get_or c.args.states.now k 0) 0 c.args.to) c.args.lasts.now;
}

pub lasts-preserved : goal.lasts-preserved
lasts-preserved c = record {
  grows = grows_on c.lasts.invariant.grows c.in_ok-lay_last.ensures.grows;
  arcs = lasts_more c.lasts.draft _ c.args.states.now c.args.lasts.now c.args.to c.lasts.last-index c.lasts-test.true c.lasts.invariant.arcs c.in_ok-lay_last.ensures.grows c.in_ok-lay_last.ensures.arc;
}

pub returns-clause-arcs : goal.returns-clause-arcs
returns-clause-arcs c = λ k h. c.lasts.invariant.arcs k (take_whole c.args.lasts.now c.lasts.last-index k c.lasts-test.false h)

pub bounds-states-last : goal.bounds-states-last
bounds-states-last c = c.requires (get_or c.args.lasts.now c.lasts.last-index 0) (Contains-get_or c.args.lasts.now c.lasts.last-index 0 c.lasts-test.true)
