use Rattle.std.proofs.Common.{◌≡◌, ◌↔◌, ◌++◌, [], ◌∷◌, List, ℕ, suc, Bool, true, false, not, length, refl, sym, ◌∙◌, subst}
use Rattle.std.specs.Prelude.{IsTrue}
use Rattle.std.proofs.lemmas.Bool.{false≢true}
use Rattle.xs_chart.specs.declared.item.Item.{Item}
use Rattle.xs_chart.specs.Charted.{Charted}
use Rattle.xs_gram.specs.Grammar.{Grammar}
use Rattle.xs_gram.specs.Languages.{IsFront}
use Rattle.xs_earley.specs.declared.begun.Begun.{Begun}
use Rattle.xs_earley.specs.declared.facts.Facts.{Facts}
use Rattle.xs_earley.specs.Arriving.{AreBegun}
use Rattle.xs_earley.specs.Running.{unsteady, IsRunOf}
use Rattle.xs_earley.specs.Stages.{AreDue}
use Rattle.xs_earley.proofs.Steadiness.{front_again, begun_again}
use Rattle.xs_earley.proofs.Steppings.{step_stops, step_goes}
use Rattle.xs_earley.proofs.stage.goes_on.Goals as goal

pub returns-then-repeats-clause-next : goal.returns-then-repeats-clause-next
returns-then-repeats-clause-next c =
    let steady = c.requires.steady c.if-repeats.true in
    let front = front_again c.args.g.now c.args.word.now c.args.symbol c.args.atom c.args.facts.now c.args.chart.now c.args.begun.now c.args.g.now.nons c.requires.run steady (sym (c.requires.atom steady.atoms steady.told)) in
    ((λ t. front), (λ h. refl))

pub returns-then-repeats-clause-fresh : goal.returns-then-repeats-clause-fresh
returns-then-repeats-clause-fresh c =
    let g = c.args.g.now in
    let w = c.args.word.now in
    let s = c.args.symbol in
    let steady = c.requires.steady c.if-repeats.true in
    let none = begun_again g w s c.args.atom c.args.facts.now c.args.chart.now c.args.begun.now g.nons c.requires.run steady (sym (c.requires.atom steady.atoms steady.told)) in
    subst (λ (l : List Begun). AreBegun g (w ++ s ∷ []) c.args.chart.now.sets (suc (length w)) l) (sym c.clear.ensures.items) none

-- where something was gathered, a word of the language begins so
something_goes : (g : Grammar) (w : List ℕ) (s : ℕ) (f : Facts) (chart : Charted) (begun : List (List Begun)) (marks : ℕ) → IsRunOf g (unsteady w chart begun f marks) → (due : List Item) (fresh : List Begun) → AreDue g w s chart.sets due → AreBegun g (w ++ s ∷ []) chart.sets (suc (length w)) fresh → (nothing : Bool) → IsTrue nothing ↔ ((due ≡ []) × (fresh ≡ [])) → IsTrue (not nothing) ↔ IsFront g (w ++ s ∷ [])
something_goes g w s f chart begun marks run due fresh are_due are_fresh true iff =
    let both = iff.0 refl in
    ((λ t. absurd (false≢true t)), (λ h. absurd (step_stops g w s f chart begun marks run due fresh are_due are_fresh both.0 both.1 h)))
something_goes g w s f chart begun marks run due fresh are_due are_fresh false iff =
    ((λ t. step_goes g w s f chart begun marks run due fresh are_due are_fresh (λ a b. false≢true (iff.1 (a, b)))), (λ h. refl))

pub returns-clause-next : goal.returns-clause-next
returns-clause-next c =
    let nothing = c.is_nothing.ensures in
    something_goes c.args.g.now c.args.word.now c.args.symbol c.args.facts.now c.args.chart.now c.args.begun.now c.args.g.now.nons c.requires.run c.gather.new.due.items c.gather.new.fresh.items c.in_ok-gather.ensures.due c.in_ok-gather.ensures.fresh c.is_nothing.result
    ((λ t. let both = nothing.0 t in (sym c.deref.ensures.value ∙ both.0, sym c.deref-2.ensures.value ∙ both.1)), (λ both. nothing.1 (c.deref.ensures.value ∙ both.0, c.deref-2.ensures.value ∙ both.1)))
