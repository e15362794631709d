use Rattle.xs_order.proofs.Steps.{steps_none, steps_more}
use Rattle.xs_order.proofs.words.steps.Goals as goal

pub add_targets-requires : goal.add_targets-requires
add_targets-requires c = λ k h. c.requires.formed.first_in k (rw c.as_slice.ensures at h)

pub positions-init : goal.positions-init
positions-init c = steps_none c.args.automaton.now c.add_targets.new.clauses.items (rw (c.as_slice.ensures, c.new-clauses.ensures.items) at c.in_ok-add_targets.ensures)

pub add_targets-requires-in-positions : goal.add_targets-requires-in-positions
add_targets-requires-in-positions c = λ k h.
    let e = rw c.as_slice-targets.ensures at h in
    c.requires.formed.follow_in c.positions.position k (rw c.at.ensures e)

pub positions-preserved : goal.positions-preserved
positions-preserved c = steps_more c.args.automaton.now c.positions.position c.at.result.now c.positions.clauses.items c.add_targets-in-positions.new.clauses.items c.at.ensures (rw c.as_slice-targets.ensures at c.in_ok-add_targets-2.ensures) c.positions.invariant
