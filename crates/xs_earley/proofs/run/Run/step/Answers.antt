use Rattle.std.proofs.Common.{◌≡◌, ◌<◌, ◌++◌, [], ◌∷◌, List, ℕ, Bool, true, false, suc, length, ◌⊎◌, inl, inr, refl, sym, ◌∙◌, ap, subst, arith}
use Rattle.std.specs.Prelude.{slice_index_or}
use Rattle.std.proofs.lemmas.List.{get_or_append_left}
use Rattle.std.proofs.lemmas.Bool.{false≢true}
use Rattle.xs_class.proofs.Lists.{len_is}
use Rattle.xs_chart.specs.declared.item.Item.{Item}
use Rattle.xs_chart.specs.Charted.{Charted, items_of}
use Rattle.xs_gram.specs.Languages.{IsFront}
use Rattle.xs_earley.specs.declared.begun.Begun.{Begun}
use Rattle.xs_earley.specs.Arriving.{gathered, item_due, item_begun, more_due, more_begun, AreBegun}
use Rattle.xs_earley.specs.Running.{Running, IsSteady, IsRunOf}
use Rattle.xs_earley.specs.Stages.{AreDue}
use Rattle.xs_earley.proofs.Steadiness.{at_rest_now, at_rest_read, steady_now, with_steady, steady_begins, kept_before}
use Rattle.xs_earley.proofs.Steppings.{same_run}
use Rattle.xs_earley.proofs.run.Run.step.Goals as goal

pub goes_on-requires-clause-run : goal.goes_on-requires-clause-run
goes_on-requires-clause-run c = at_rest_read c.args.g.now _ _ c.self.view_is c.requires.run c.deref.result.now c.deref.ensures.value

pub goes_on-requires-clause-steady : goal.goes_on-requires-clause-steady
goes_on-requires-clause-steady c t =
    let g = c.args.g.now in
    let i = c.self.inside in
    let both = c.repeats_last-repeats.ensures.0 t in
    subst (λ (u : List ℕ). IsSteady g c.atom-atom.result u i.chart i.begun i.facts) (sym c.deref.ensures.value) (subst (λ n. IsSteady g n i.word.items i.chart i.begun i.facts) (sym both.1) (steady_now g _ _ c.self.view_is c.requires.run both.0))

pub next_set-read-requires-clause-run : goal.next_set-read-requires-clause-run
next_set-read-requires-clause-run c = at_rest_now c.args.g.now _ _ c.self.view_is c.requires.run

pub next_set-read-requires-clause-due : goal.next_set-read-requires-clause-due
next_set-read-requires-clause-due c off =
    let i = c.self.inside in
    let are_due = subst (λ (u : List ℕ). AreDue c.args.g.now u c.args.symbol i.chart.sets c.goes_on.new.due.items) c.deref.ensures.value (c.in_ok-goes_on.ensures.due off) in
    subst (λ (l : List Item). AreDue c.args.g.now i.word.items c.args.symbol i.chart.sets l) (sym c.deref-2.ensures.value) are_due

pub next_set-read-requires-clause-fresh : goal.next_set-read-requires-clause-fresh
next_set-read-requires-clause-fresh c =
    let g = c.args.g.now in
    let s = c.args.symbol in
    let i = c.self.inside in
    let are_fresh = subst (λ (u : List ℕ). AreBegun g (u ++ s ∷ []) i.chart.sets (suc (length u)) c.goes_on.new.fresh.items) c.deref.ensures.value c.in_ok-goes_on.ensures.fresh in
    subst (λ (l : List Begun). AreBegun g (i.word.items ++ s ∷ []) i.chart.sets (suc (length i.word.items)) l) (sym c.deref-3.ensures.value) are_fresh

-- a test holds or it does not
split : (b : Bool) → (b ≡ true) ⊎ (b ≡ false)
split true = inl refl
split false = inr refl

-- what stands beside the sets before is as it was
row_before : (begun on : List (List Begun)) (fresh : List Begun) (k : ℕ) → k < length begun → on ≡ begun ++ fresh ∷ [] → slice_index_or on k [] ≡ [] → slice_index_or begun k [] ≡ []
row_before begun on fresh k lt pushed none = sym (get_or_append_left begun (fresh ∷ []) [] k lt) ∙ sym (ap (λ (l : List (List Begun)). slice_index_or l k []) pushed) ∙ none

pub returns-in-Ok-clause-run : goal.returns-in-Ok-clause-run
returns-in-Ok-clause-run c =
    let g = c.args.g.now in
    let s = c.args.symbol in
    let i = c.self.inside in
    let w = i.word.items in
    let f = i.facts in
    let n = c.next_set-read.new in
    let done = c.in-Ok.ensures in
    let base = at_rest_now g _ _ c.self.view_is c.requires.run in
    let atom = c.atom-atom.result in
    let at : c.len-length.result ≡ length w = c.len-length.ensures ∙ len_is i.word in
    let pushed : n.begun ≡ i.begun ++ c.goes_on.new.fresh.items ∷ [] = done.begun ∙ ap (λ (l : List Begun). i.begun ++ l ∷ []) c.deref-3.ensures.value in
    let said = c.goes_on.new in
    let told = c.in_ok-goes_on.ensures in
    let front = subst (λ (u : List ℕ). IsFront g u) done.word done.run.front in
    let are_fresh = subst (λ (u : List ℕ). AreBegun g (u ++ s ∷ []) i.chart.sets (suc (length u)) said.fresh.items) c.deref.ensures.value told.fresh in
    with_steady g _ _ _ f _ atom c.stays_steady-self-inside.result done.run (λ e. elim (split c.repeats_last-repeats.result) [
      | inl t ↦ (let both = c.repeats_last-repeats.ensures.0 t in done.steady t atom c.atom-atom.ensures (subst (λ m. IsSteady g m w i.chart i.begun f) (sym both.1) (steady_now g _ _ c.self.view_is c.requires.run both.0)))
      | inr off ↦ elim (c.stays_steady-self-inside.ensures.0 e) [
        | inl t ↦ absurd (false≢true (sym off ∙ t))
        | inr h ↦ steady_begins g w s f i.chart i.begun (length i.called) base said.due.items said.fresh.items
            (subst (λ (u : List ℕ). AreDue g u s i.chart.sets said.due.items) c.deref.ensures.value (told.due off)) are_fresh
            (subst (λ (u : List ℕ). said.due.items ≡ gathered (item_due g f s) (items_of i.chart (length u)) ++ gathered (more_due f s) (slice_index_or i.begun (length u) [])) c.deref.ensures.value (told.due_is off))
            (subst (λ (u : List ℕ). said.fresh.items ≡ gathered (item_begun f s) (items_of i.chart (length u)) ++ gathered (more_begun f s) (slice_index_or i.begun (length u) [])) c.deref.ensures.value (told.fresh_is off))
            front
            (row_before i.begun n.begun said.fresh.items (length w) (let k = base.counted in omega (arith, k)) pushed (ap (λ k. slice_index_or n.begun k []) (sym at) ∙ h.2))
            (sym c.deref-in-Ok.ensures.value ∙ h.3)
            n.chart n.begun (kept_before g w i.chart n.chart base.chart (ap (λ (x : Charted). x.sets) done.kept.chart_kept))
            (subst (λ k. items_of n.chart (suc k) ≡ items_of n.chart k) at h.4)
            pushed h.1.0 h.1.1 atom (c.atom-atom.ensures h.1.0 h.1.1) n.word.items done.word
      ]
    ])

pub returns-in-Err-clause-err : goal.returns-in-Err-clause-err
returns-in-Err-clause-err c =
    let i = c.self.inside in
    let new = c.next_set-read.new in
    let base = at_rest_now c.args.g.now _ _ c.self.view_is c.requires.run in
    let sets = base.chart.counted in
    let rows = base.counted in
    let long : c.len-length.result ≡ length i.word.items = c.len-length.ensures ∙ len_is i.word in
    rw (c.truncate.ensures.items, c.truncate-in-Err.ensures, c.truncate-in-Err-2.ensures)
    (same_run i.facts i.atom i.steady i.word.items new.word.items i.chart new.chart i.begun new.begun (length i.called) (length new.called) c.len-length.result c.in-Err.ensures.kept c.next_set-read.ensures.marks long (omega (arith, long, sets)) (omega (arith, long, rows)) ∙ c.self.view_is)

pub returns-in-Err-clause-run : goal.returns-in-Err-clause-run
returns-in-Err-clause-run c = subst (λ (r : Running). IsRunOf c.args.g.now r) (sym (returns-in-Err-clause-err c)) c.requires.run
