use Rattle.std.proofs.Common.{◌<◌, [], ◌∙◌, length, sym, ap, subst, arith}
use Rattle.std.proofs.lemmas.List.Elements.{All-get_or}
use Rattle.xs_chart.specs.Charted.{Charted, waiting_of, waiting_for}
use Rattle.xs_chart.specs.Kept.{IsGrouped}
use Rattle.xs_chart.proofs.Sets.{open_waits, finished_set}
use Rattle.xs_chart.proofs.chart.Chart.waiting.Goals as goal

pub returns-then-set-len : goal.returns-then-set-len
returns-then-set-len c =
    let k = c.self.inside.kept in
    let there = subst (λ (x : Charted). c.args.set < length x.sets) (sym c.self.view_is) c.requires in
    let is = open_waits k.waiting.items c.self.invariant.kept c.args.set (c.if-set-len.true ∙ c.len.ensures) there c.args.non in
    c.count.ensures ∙ ap (λ ws. length (waiting_for ws c.args.non)) c.deref.ensures.value ∙ sym (ap length is) ∙ ap (λ (x : Charted). length (waiting_of x c.args.set c.args.non)) c.self.view_is

pub find-count-requires : goal.find-count-requires
find-count-requires c =
    let k = c.self.invariant.kept in
    let there = subst (λ (x : Charted). c.args.set < length x.sets) (sym c.self.view_is) c.requires in
    let lt = finished_set k c.args.set (λ e. c.if-set-len.false (e ∙ sym c.len.ensures)) there in
    subst IsGrouped (sym c.list.ensures) (All-get_or IsGrouped c.self.inside.kept.waits c.args.set [] (omega (arith, lt, k.paired)) k.grouped)
