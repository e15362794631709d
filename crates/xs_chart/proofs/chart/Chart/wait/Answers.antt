use Rattle.std.proofs.Common.{◌++◌, ◌∷◌, [], ◌∙◌, ap, append-nil}
use Rattle.xs_chart.specs.Charted.{waiting_for}
use Rattle.xs_chart.specs.declared.waiting.Waiter.{Waiter}
use Rattle.xs_chart.proofs.Grouping.{waiting_more, waiting_own, waiting_not}
use Rattle.xs_chart.proofs.Sets.{entry_more}
use Rattle.xs_chart.proofs.chart.Chart.wait.Goals as goal

pub returns-clause-there : goal.returns-clause-there
returns-clause-there c =
    let e = c.in_ok-reopen.ensures in
    let old = c.reopen.new.self.waiting.items in
    let w : Waiter = record { non = c.args.non; number = c.args.k } in
    let more = ap (λ ws. waiting_for ws c.args.non) c.in_ok-push.ensures.items ∙ waiting_more old w c.args.non ∙ ap (λ l. waiting_for old c.args.non ++ l) (waiting_own w) in
    rw (← (e.same ∙ c.self.view_is)) (entry_more old e.kept e.open c.push.new.self.items c.args.non (c.args.k ∷ []) more)

pub returns-clause-others : goal.returns-clause-others
returns-clause-others c other ne =
    let e = c.in_ok-reopen.ensures in
    let old = c.reopen.new.self.waiting.items in
    let w : Waiter = record { non = c.args.non; number = c.args.k } in
    let more = ap (λ ws. waiting_for ws other) c.in_ok-push.ensures.items ∙ waiting_more old w other ∙ ap (λ l. waiting_for old other ++ l) (waiting_not w other ne) in
    rw (← (e.same ∙ c.self.view_is)) (entry_more old e.kept e.open c.push.new.self.items other [] more ∙ append-nil _)
