use Rattle.std.proofs.Common.{◌≡◌, ℕ, suc, ◌-◌, ◌∙◌, sym, subst, arith}
use Rattle.xs_coarse.specs.Coarse.{HasArc}
use Rattle.xs_coarse_net.specs.Reaching.{left_net}
use Rattle.xs_coarse_net.specs.Stretches.{last_state}
use Rattle.xs_coarse_net.proofs.Tracing.{named_none, copy_follows}
use Rattle.xs_coarse_net.proofs.fragment.fragment.Goals as goal

pub returns : goal.returns
returns c = λ t.
    let net = c.in_ok-net.net in
    let first : c.in_ok-first.first ≡ suc (c.in_ok-first.first - 1) = omega (arith, c.in_ok-first.ensures.some) in
    let named = c.in_ok-done.ensures.reaches.named (c.in_ok-first.ensures.reaches.named (rw (c.in_ok-tracer.ensures.0, c.in_ok-tracer.ensures.1) (named_none c.len.result))) in
    copy_follows t (left_net c.args.has.now c.args.whole.now) net c.copy_rows.new.self c.args.start c.args.end (last_state net) (c.in_ok-first.first - 1) named (λ x u label y e low has. c.in_ok-done.ensures.copied x u label y e (omega (arith, low, c.if-done-len.false)) has) (c.in_ok-done.ensures.reaches.kept c.args.start (c.in_ok-first.first - 1) (sym c.in_ok-first.ensures.name ∙ first)) c.len-states.ensures.within c.in_ok-net.ensures.arcs (subst (λ (v : ℕ). HasArc net 0 0 v) first c.in_ok-net.ensures.enters) c.in_ok-net.ensures.leaves
