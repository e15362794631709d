use Rattle.std.proofs.Common.{◌≡◌, ◌<◌, ◌+◌, map, slice_range, ◌∙◌, length, sym, ap, subst}
use Rattle.std.specs.Prelude.{slice_get}
use Rattle.xs_chart.specs.Charted.{Charted, waiting_of, waiting_for, number_of}
use Rattle.xs_chart.specs.declared.waiting.Waiter.{Waiter}
use Rattle.xs_chart.proofs.Sets.{open_waits, finished_set, finished_waits, waits_there, entry_of}
use Rattle.xs_chart.proofs.chart.Chart.waiter.Goals as goal

pub nth-requires : goal.nth-requires
nth-requires c =
    let k = c.self.inside.kept in
    let n = subst (λ (x : Charted). c.args.n < length (waiting_of x c.args.set c.args.non)) (sym c.self.view_is) c.requires in
    let there = waits_there k.waiting.items c.self.invariant.kept c.args.set c.args.non c.args.n n in
    let is = open_waits k.waiting.items c.self.invariant.kept c.args.set (c.if-set-len.true ∙ c.len.ensures) there c.args.non in
    rw (c.deref.ensures.value, ← is) n

pub returns-then-set-len : goal.returns-then-set-len
returns-then-set-len c =
    let k = c.self.inside.kept in
    let n = subst (λ (x : Charted). c.args.n < length (waiting_of x c.args.set c.args.non)) (sym c.self.view_is) c.requires in
    let there = waits_there k.waiting.items c.self.invariant.kept c.args.set c.args.non c.args.n n in
    let is = open_waits k.waiting.items c.self.invariant.kept c.args.set (c.if-set-len.true ∙ c.len.ensures) there c.args.non in
    ap (λ (x : Charted). slice_get (waiting_of x c.args.set c.args.non) c.args.n) (sym c.self.view_is) ∙ ap (λ l. slice_get l c.args.n) (is ∙ ap (λ ws. waiting_for ws c.args.non) (sym c.deref.ensures.value)) ∙ c.nth.ensures

pub returns : goal.returns
returns c =
    let k = c.self.inside.kept in
    let kept = c.self.invariant.kept in
    let none : Waiter = record { non = 0; number = 0 } in
    let found = c.find-first.ensures in
    let n = subst (λ (x : Charted). c.args.n < length (waiting_of x c.args.set c.args.non)) (sym c.self.view_is) c.requires in
    let there = waits_there k.waiting.items kept c.args.set c.args.non c.args.n n in
    let lt = finished_set kept c.args.set (λ e. c.if-set-len.false (e ∙ sym c.len.ensures)) there in
    let is = finished_waits k.waiting.items kept c.args.set lt c.args.non in
    let here : waiting_of c.args.self.now c.args.set c.args.non ≡ map number_of (slice_range c.list-waits.result.now c.find-first.result.0 (c.find-first.result.0 + c.find-first.result.1))
    = ap (λ (x : Charted). waiting_of x c.args.set c.args.non) (sym c.self.view_is) ∙ is ∙ ap (λ ws. waiting_for ws c.args.non) (sym c.list-waits.ensures) ∙ found.is in
    ap (λ l. slice_get l c.args.n) here ∙ entry_of c.list-waits.result.now c.find-first.result.0 c.find-first.result.1 c.args.n none found.within (subst (λ l. c.args.n < length l) here c.requires)
