use Rattle.std.proofs.Common.{◌≡◌, ◌≢◌, ◌++◌, [], ◌∷◌, List, ℕ, length, ◌∙◌, ap, subst, inl, inr}
use Rattle.std.proofs.lemmas.Bool.{cases_eq}
use Rattle.std.specs.Prelude.{Contains, slice_index_or}
use Rattle.xs_chart.specs.declared.item.Item.{Item}
use Rattle.xs_chart.specs.declared.waiting.Waiter.{Waiter}
use Rattle.xs_chart.specs.Charted.{Charted, waiting_for, waiting_of}
use Rattle.xs_gram.specs.Grammar.{Grammar}
use Rattle.xs_earley.specs.Adding.{Adds, Calls}
use Rattle.xs_chart.proofs.Advancing.{no_element}
use Rattle.xs_earley.proofs.Predicting.{called_none}
use Rattle.xs_earley.proofs.Steppings.{first_open, first_waits, first_chart, first_waiters}
use Rattle.xs_earley.proofs.stage.first_set.Goals as goal

sets_of : (new old : List (List Item)) → new ≡ old ++ [] ∷ [] → old ≡ [] → new ≡ [] ∷ []
sets_of new old is none = is ∙ ap (λ (l : List (List Item)). l ++ [] ∷ []) none

begun_start : (g : Grammar) (start : ℕ) (a b : List (List Item)) → start ≡ g.start → Adds g 0 (Calls g 0 start) a b → Adds g 0 (Calls g 0 g.start) a b
begun_start g start a b is adds = subst (λ n. Adds g 0 (Calls g 0 n) a b) is adds

no_waits : (chart : Charted) → chart.waits ≡ [] → (j non : ℕ) → waiting_of chart j non ≡ []
no_waits chart none j non = ap (λ (ws : List (List Waiter)). waiting_for (slice_index_or ws j []) non) none

-- nor in the first set
none_wait : (old new : Charted) → old.waits ≡ [] → ((j non : ℕ) → j ≢ length old.sets → waiting_of new j non ≡ waiting_of old j non) → ((non : ℕ) → waiting_of new (length old.sets) non ≡ []) → (j non : ℕ) → waiting_of new j non ≡ []
none_wait old new none kept own j non = elim (cases_eq j (length old.sets)) [
  | inr ne ↦ kept j non ne ∙ no_waits old none j non
  | inl e ↦ ap (λ k. waiting_of new k non) e ∙ own non
]

-- the empty set has no item
no_item : (sets : List (List Item)) (item : Item) → sets ≡ [] ∷ [] → Contains (slice_index_or sets 0 []) item → ⊥
no_item sets item is h = no_element item (subst (λ (s : List (List Item)). Contains (slice_index_or s 0 []) item) is h)

pub predict-requires-clause-called : goal.predict-requires-clause-called
predict-requires-clause-called c =
    called_none c.args.g.now 0 c.push_set.new.self.sets c.args.called.now c.requires.unmarked (λ item q h num. no_item c.push_set.new.self.sets item (sets_of c.push_set.new.self.sets c.args.chart.now.sets c.in_ok-push_set.ensures.sets c.requires.sets) h)

pub close-requires-clause-open : goal.close-requires-clause-open
close-requires-clause-open c = first_open c.args.g.now c.requires.sound c.push_set.new.self c.predict.new.chart c.predict.new.chart (sets_of c.push_set.new.self.sets c.args.chart.now.sets c.in_ok-push_set.ensures.sets c.requires.sets) (none_wait c.args.chart.now c.push_set.new.self c.requires.waits c.push_set.ensures.waiting c.in_ok-push_set.ensures.last) (begun_start c.args.g.now c.start.result c.push_set.new.self.sets c.predict.new.chart.sets c.start.ensures c.in_ok-predict.ensures.adds) c.predict.ensures.waits

pub close-requires-clause-waits : goal.close-requires-clause-waits
close-requires-clause-waits c = first_waits c.args.g.now c.requires.sound c.push_set.new.self c.predict.new.chart c.predict.new.chart (sets_of c.push_set.new.self.sets c.args.chart.now.sets c.in_ok-push_set.ensures.sets c.requires.sets) (none_wait c.args.chart.now c.push_set.new.self c.requires.waits c.push_set.ensures.waiting c.in_ok-push_set.ensures.last) (begun_start c.args.g.now c.start.result c.push_set.new.self.sets c.predict.new.chart.sets c.start.ensures c.in_ok-predict.ensures.adds) c.predict.ensures.waits

pub returns-clause-chart : goal.returns-clause-chart
returns-clause-chart c = first_chart c.args.g.now c.requires.sound c.push_set.new.self c.predict.new.chart c.close.new.chart (sets_of c.push_set.new.self.sets c.args.chart.now.sets c.in_ok-push_set.ensures.sets c.requires.sets) (none_wait c.args.chart.now c.push_set.new.self c.requires.waits c.push_set.ensures.waiting c.in_ok-push_set.ensures.last) (begun_start c.args.g.now c.start.result c.push_set.new.self.sets c.predict.new.chart.sets c.start.ensures c.in_ok-predict.ensures.adds) c.predict.ensures.waits c.in_ok-close.ensures.grown c.in_ok-close.ensures.settled c.in_ok-close.ensures.earlier c.in_ok-close.ensures.waits c.sets-different.ensures.different

pub returns-clause-waiters : goal.returns-clause-waiters
returns-clause-waiters c = first_waiters c.args.g.now c.requires.sound c.push_set.new.self c.predict.new.chart c.close.new.chart (sets_of c.push_set.new.self.sets c.args.chart.now.sets c.in_ok-push_set.ensures.sets c.requires.sets) (none_wait c.args.chart.now c.push_set.new.self c.requires.waits c.push_set.ensures.waiting c.in_ok-push_set.ensures.last) (begun_start c.args.g.now c.start.result c.push_set.new.self.sets c.predict.new.chart.sets c.start.ensures c.in_ok-predict.ensures.adds) c.predict.ensures.waits c.in_ok-close.ensures.grown c.in_ok-close.ensures.settled c.in_ok-close.ensures.earlier c.in_ok-close.ensures.waits c.sets-different.ensures.different
