use Rattle.std.proofs.Common.{◌≡◌, ◌<◌, ◌∙◌, length, take, sym, ap, arith}
use Rattle.std.specs.Prelude.{slice_get}
use Rattle.xs_chart.specs.Charted.{waiting_for}
use Rattle.xs_chart.specs.declared.waiting.Waiter.{Waiter}
use Rattle.xs_chart.proofs.Grouping.{waiting_at}
use Rattle.xs_chart.proofs.waiting.nth.Goals as goal

pub returns-then-left-eq0 : goal.returns-then-left-eq0
returns-then-left-eq0 c =
    let waits = c.args.waits.now in
    let non = c.args.non in
    let k = c.entries.waiter-index in
    let none : Waiter = record { non = 0; number = 0 } in
    let lt : k < length waits = omega arith in
    let at : c.args.n ≡ length (waiting_for (take k waits) non) = omega arith in
    ap (slice_get (waiting_for waits non)) at ∙ waiting_at waits non k none lt (sym c.if-waiter-non.true)
