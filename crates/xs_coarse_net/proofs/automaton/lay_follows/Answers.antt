use Rattle.std.proofs.Common.{arith}
use Rattle.xs_loose.proofs.Pushing.{row_leads}
use Rattle.xs_coarse_net.proofs.Going.{grows_none, grows_on}
use Rattle.xs_coarse_net.proofs.Laying.{follows_more}
use Rattle.xs_coarse_net.proofs.Rows.{leads_low}
use Rattle.xs_coarse_net.proofs.automaton.lay_follows.Goals as goal

pub positions-init : goal.positions-init
positions-init c = record { grows = grows_none; arcs = λ j k low leads. absurd (omega (arith, low)) }

pub positions-preserved : goal.positions-preserved
positions-preserved c = record {
  grows = grows_on c.positions.invariant.grows c.in_ok-lay_row.ensures.grows;
  arcs = follows_more c.positions.draft _ c.args.automaton.now c.args.labels.now c.args.states.now c.positions.position c.at.result.now c.at.ensures c.positions.invariant.arcs c.in_ok-lay_row.ensures.grows (rw c.as_slice-targets.ensures at c.in_ok-lay_row.ensures.arcs);
}

pub returns-clause-arcs : goal.returns-clause-arcs
returns-clause-arcs c = λ j k leads. c.positions.invariant.arcs j k (omega (arith, leads_low c.args.automaton.now j k leads, c.positions-test.false, c.len-position-end.ensures)) leads

pub lay_row-requires-clause-labels : goal.lay_row-requires-clause-labels
lay_row-requires-clause-labels c = λ k h.
    let low = c.requires.formed.follow_in c.positions.position k (row_leads c.args.automaton.now c.positions.position k c.at.result.now c.at.ensures (rw c.as_slice-targets.ensures at h)) in
    omega (arith, low, c.requires.labels)

pub lay_row-requires-clause-states : goal.lay_row-requires-clause-states
lay_row-requires-clause-states c = λ k h.
    let low = c.requires.formed.follow_in c.positions.position k (row_leads c.args.automaton.now c.positions.position k c.at.result.now c.at.ensures (rw c.as_slice-targets.ensures at h)) in
    omega (arith, low, c.requires.states)
