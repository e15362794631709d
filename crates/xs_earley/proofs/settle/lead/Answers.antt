use Rattle.std.proofs.Common.{◌≡◌, ◌<◌, ◌∙◌, ℕ, List, sym, subst}
use Rattle.xs_chart.specs.declared.item.Item.{Item}
use Rattle.xs_chart.specs.Charted.{last_set}
use Rattle.xs_earley.specs.declared.rows.Stand.{Stand}
use Rattle.xs_earley.specs.declared.rows.Stand.TheVariants.{AtEnd, AtNon}
use Rattle.xs_earley.specs.Adding.{Adds, Calls, Completes, AreCalled}
use Rattle.xs_earley.proofs.Completing.{waiting_same}
use Rattle.xs_earley.proofs.Predicting.{next_later, called_kept}
use Rattle.xs_earley.proofs.Queues.{waited_at, waited_not}
use Rattle.xs_earley.proofs.Settlings.{leads_end, leads_non}
use Rattle.xs_earley.proofs.settle.lead.Goals as goal

pub complete-requires-clause-waiting : goal.complete-requires-clause-waiting
complete-requires-clause-waiting c lt = c.requires.waiting c.in-AtEnd.non lt

pub predict-requires-clause-called : goal.predict-requires-clause-called
predict-requires-clause-called c =
    subst (λ (s : List (List Item)). AreCalled c.args.g.now c.args.at s c.args.called.now) (sym c.in_ok-wait-in-AtNon.ensures.sets) c.requires.called

pub returns-in_ok-complete-in-AtEnd-clause-adds : goal.returns-in_ok-complete-in-AtEnd-clause-adds
returns-in_ok-complete-in-AtEnd-clause-adds c = leads_end c.args.g.now c.args.at c.args.item.origin c.args.row.stand c.args.chart.now.sets c.complete.new.chart.sets c.in-AtEnd.non c.in-AtEnd.is c.in_ok-complete-in-AtEnd.ensures.adds

pub returns-in_ok-complete-in-AtEnd-clause-called : goal.returns-in_ok-complete-in-AtEnd-clause-called
returns-in_ok-complete-in-AtEnd-clause-called c =
    let g = c.args.g.now in
    let o = c.args.item.origin in
    let a = c.args.chart.now.sets in
    called_kept g c.args.at (λ d i. (o < c.args.at) × Completes g a o c.in-AtEnd.non d i) a c.complete.new.chart.sets c.args.called.now (λ d i h. next_later d h.1.0 h.1.3) c.in_ok-complete-in-AtEnd.ensures.adds c.requires.called

end_not_non : (s : Stand) (x n : ℕ) → s ≡ AtEnd x → s ≡ AtNon n → ⊥
end_not_non s x n a b = cc

pub returns-in_ok-complete-in-AtEnd-clause-waited : goal.returns-in_ok-complete-in-AtEnd-clause-waited
returns-in_ok-complete-in-AtEnd-clause-waited c =
    waited_not c.args.g.now c.args.facts.now c.requires.facts c.args.chart.now c.complete.new.chart c.args.at c.args.k c.args.item.state c.args.row c.complete.ensures.waits c.requires.number c.requires.row (λ non. end_not_non c.args.row.stand c.in-AtEnd.non non c.in-AtEnd.is)

pub returns-in_ok-predict-in-AtNon-clause-adds : goal.returns-in_ok-predict-in-AtNon-clause-adds
returns-in_ok-predict-in-AtNon-clause-adds c =
    let g = c.args.g.now in
    let at = c.args.at in
    let non = c.in-AtNon.non in
    let new = c.predict.new.chart.sets in
    let adds = subst (λ (s : List (List Item)). Adds g at (Calls g at non) s new) c.in_ok-wait-in-AtNon.ensures.sets c.in_ok-predict-in-AtNon.ensures.adds in
    leads_non g at c.args.item.origin c.args.row.stand c.args.chart.now.sets new non c.in-AtNon.is adds

pub returns-in_ok-predict-in-AtNon-clause-waited : goal.returns-in_ok-predict-in-AtNon-clause-waited
returns-in_ok-predict-in-AtNon-clause-waited c =
    let old = c.args.chart.now in
    let mid = c.wait.new.self in
    let new = c.predict.new.chart in
    let last = last_set old in
    let ens = c.in_ok-wait-in-AtNon.ensures in
    let same = λ (j other : ℕ). waiting_same mid new j other c.predict.ensures.waits in
    waited_at c.args.g.now c.args.facts.now c.requires.facts old new c.args.at c.args.k c.args.item.state c.args.row c.in-AtNon.non c.requires.last c.requires.number c.requires.row c.in-AtNon.is
    (same last c.in-AtNon.non ∙ ens.there)
    (λ other ne. same last other ∙ ens.others other ne)
    (λ j other ne. same j other ∙ ens.earlier j other ne)
