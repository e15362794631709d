use Rattle.std.proofs.Common.{◌≡◌, ◌⊎◌, ◌↔◌, ℕ, List, ◌+◌, ◌∷◌, ◌++◌, [], take, get_or, inl, inr, arith, subst, ap, ◌∙◌}
use Rattle.std.specs.List.{Contains}
use Rattle.std.proofs.lemmas.List.{take_more, take_all}
use Rattle.std.proofs.lemmas.List.Elements.{Contains-get_or}
use Rattle.xs_regex.specs.Automaton.{HasAt}
use Rattle.xs_grow.proofs.Runnings.{enter_more, tried}
use Rattle.xs_grow.proofs.runs.enter.Goals as goal
use Rattle.xs_grow.proofs.runs.enter.Goals.{then-enters+in_ok-push, else-enters}

pub enters-requires : goal.enters-requires
enters-requires c = c.requires _ (Contains-get_or c.args.among.now c.among.position-index 0 (omega arith))

pub among-preserved : goal.among-preserved
among-preserved c =
    let among = c.args.among.now in
    let i = c.among.position-index in
    let x = get_or among i 0 in
    let e : take (i + 1) among ≡ take i among ++ x ∷ [] = take_more among i 0 (omega arith) in
    let how = tried c.args.p.now c.args.symbol x c.enters.result c.deref.result.now c.among.next.items c.if-enters.next.items c.deref.ensures.value c.enters.ensures (elim c.if-enters.branch [
      | then-enters+in_ok-push w ↦ inl (w.if-enters.true, ap (λ v. v.items) w.next-is ∙ w.in_ok-push.ensures.items)
      | else-enters w ↦ inr (w.if-enters.false, ap (λ v. v.items) w.next-is)
    ]) in
    enter_more c.args.p.now c.args.symbol c.args.next.now.items c.among.next.items c.if-enters.next.items (take i among) (take (i + 1) among) x e c.among.invariant how

pub returns : goal.returns
returns c =
    let whole = take_all c.among.position-index c.args.among.now (omega arith) in
    subst (λ (z : List ℕ). (k : ℕ) → Contains c.among.next.items k ↔ (Contains c.args.next.now.items k ⊎ (Contains z k × HasAt c.args.p.now k c.args.symbol))) whole c.among.invariant
