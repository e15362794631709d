use Rattle.std.proofs.Common.{◌↔◌, ◌⊎◌, ◌+◌, ℕ, List, take, get_or, subst, arith}
use Rattle.std.specs.List.{Contains}
use Rattle.std.proofs.lemmas.List.{take_more, take_all}
use Rattle.std.proofs.lemmas.List.Elements.{Contains-get_or}
use Rattle.xs_regex.specs.Automaton.{HasAt}
use Rattle.xs_grow.specs.Running.{Enters}
use Rattle.xs_grow.proofs.Runnings.{entered_none, follow_more}
use Rattle.xs_grow.proofs.runs.step.Goals as goal

pub reached-init : goal.reached-init
reached-init c = entered_none c.args.p.now c.args.symbol c.args.at_start c.in_ok-next.next.items c.in_ok-next.ensures

pub at-requires : goal.at-requires
at-requires c =
    let h = c.requires.positions _ (Contains-get_or c.args.reached.now c.reached.position-index 0 (omega arith)) in
    omega (arith, h, c.requires.formed.rows)

pub enter-requires : goal.enter-requires
enter-requires c = λ k h.
    let e = rw c.as_slice.ensures at h in
    c.requires.formed.follow_in (get_or c.args.reached.now c.reached.position-index 0) k (rw c.at.ensures e)

pub reached-preserved : goal.reached-preserved
reached-preserved c =
    let reached = c.args.reached.now in
    let i = c.reached.position-index in
    let entered = subst (λ (row : List ℕ). (k : ℕ) → Contains c.enter.new.next.items k ↔ (Contains c.reached.next.items k ⊎ (Contains row k × HasAt c.args.p.now k c.args.symbol))) c.as_slice.ensures c.in_ok-enter.ensures in
    follow_more c.args.p.now c.args.symbol c.args.at_start (take i reached) (take (i + 1) reached) c.at.result.now c.reached.next.items c.enter.new.next.items (get_or reached i 0) (take_more reached i 0 (omega arith)) c.at.ensures c.reached.invariant entered

pub returns : goal.returns
returns c =
    let whole = take_all c.reached.position-index c.args.reached.now (omega arith) in
    subst (λ (z : List ℕ). (k : ℕ) → Contains c.reached.next.items k ↔ Enters c.args.p.now c.args.at_start z c.args.symbol k) whole c.reached.invariant
