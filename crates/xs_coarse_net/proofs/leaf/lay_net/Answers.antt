use Rattle.std.proofs.Common.{ℕ, ◌-◌, ap, arith}
use Rattle.xs_coarse.specs.declared.arc.Arc.{Arc}
use Rattle.xs_coarse.specs.Coarse.{HasArc}
use Rattle.xs_coarse_net.specs.Placing.{inner_state}
use Rattle.xs_coarse_net.proofs.Going.{grows_on}
use Rattle.xs_coarse_net.proofs.Leaving.{laid_goes}
use Rattle.xs_coarse_net.proofs.Rows.{take_each, take_whole}
use Rattle.xs_coarse_net.proofs.leaf.lay_net.Goals as goal

pub state_for-start-requires-clause-small : goal.state_for-start-requires-clause-small
state_for-start-requires-clause-small c = omega (arith, c.in_ok-base.ensures.small, c.if-last-eq0.false)

pub state_for-end-requires-clause-small : goal.state_for-end-requires-clause-small
state_for-end-requires-clause-small c = omega (arith, c.in_ok-base.ensures.small, c.if-last-eq0.false)

pub arcs-preserved : goal.arcs-preserved
arcs-preserved c =
    let place : ℕ → ℕ = inner_state (c.len-last.result - 1) c.in_ok-base.base c.args.from c.args.to in
    record {
      grows = grows_on c.arcs.invariant.grows c.in_ok-add.ensures.grows;
      arcs = take_each (λ (x : Arc). HasArc c.add.new.self (place x.from) x.label (place x.to)) c.args.net.now.arcs c.arcs.x-index _ (rw c.arcs-x-items.ensures at c.arcs-test.true) (λ x h. c.in_ok-add.ensures.grows.kept _ (c.arcs.invariant.arcs x h)) (rw (c.state_for-start.ensures, c.state_for-end.ensures, c.arcs-x-items.ensures) at c.in_ok-add.ensures.there);
    }

pub returns-clause-goes : goal.returns-clause-goes
returns-clause-goes c =
    let net = c.args.net.now in
    let last = c.len-last.result - 1 in
    λ t w p. laid_goes net c.arcs.draft last c.in_ok-base.base c.args.from c.args.to (λ e. absurd (omega (arith, e, c.if-last-eq0.false))) (ap (λ (s : ℕ). s - 1) c.len-last.ensures.states) (λ x h. c.arcs.invariant.arcs x (take_whole net.arcs c.arcs.x-index x (rw c.arcs-x-items.ensures at c.arcs-test.false) h)) t w p
