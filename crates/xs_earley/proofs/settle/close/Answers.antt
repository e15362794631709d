use Rattle.std.proofs.Common.{◌≡◌, ◌≢◌, ◌<◌, ◌≤◌, ◌+◌, ◌∙◌, ℕ, Bool, List, length, refl, sym, subst, arith, inl, inr}
use Rattle.std.specs.Prelude.{Contains, slice_get, Some}
use Rattle.std.proofs.lemmas.Bool.{cases_lt}
use Rattle.std.proofs.lemmas.Option.{slice_get_within}
use Rattle.xs_class.proofs.Lists.{contains_of}
use Rattle.xs_chart.specs.declared.item.Item.{Item}
use Rattle.xs_chart.specs.Charted.{items_of}
use Rattle.xs_gram.specs.Grammar.{Grammar}
use Rattle.xs_gram.specs.Places.{all_places}
use Rattle.xs_gram.specs.declared.places.Place.{Place}
use Rattle.xs_chart_laws.specs.Charts.{IsNumber, HasPlace, set_at}
use Rattle.xs_chart_laws.specs.Steps.{IsSettled}
use Rattle.xs_chart_laws.proofs.Words.{get_lt}
use Rattle.xs_earley.specs.Growing.{Standing, Grown, IsSettledAt}
use Rattle.xs_earley.proofs.Growths.{grown_none, grown_then, grown_stand, settled_at_more, open_more, put_item_more}
use Rattle.xs_earley.proofs.Idles.{acts_there, past_idle}
use Rattle.xs_earley.proofs.Queues.{waits_more}
use Rattle.xs_earley.proofs.Settlings.{row_there, settled_by_place}
use Rattle.xs_earley.proofs.settle.close.Goals as goal

-- the item that is settled stands in its set
pub row-row-requires : goal.row-row-requires
row-row-requires c =
    let st = c.acting.invariant.ready.stand c.args.at c.item-item.result (contains_of (items_of c.acting.chart c.args.at) c.acting.k c.item-item.result c.item-item.ensures) in
    row_there c.args.g.now c.args.facts.now c.requires.facts c.item-item.result.state (get_lt (all_places c.args.g.now) c.item-item.result.state st.0 st.1)

pub next_acting-k-requires-clause-states : goal.next_acting-k-requires-clause-states
next_acting-k-requires-clause-states c item h =
    let there = acts_there c.args.g.now c.args.facts.now c.requires.facts c.args.doc.now c.args.at c.args.chart.now.sets c.requires.open.stand item (subst (λ (l : List Item). Contains l item) c.items.ensures h) in
    subst (λ (l : List Bool). item.state < length l) (sym c.deref.ensures.value) there

pub next_acting-k-requires-in-acting-clause-states : goal.next_acting-k-requires-in-acting-clause-states
next_acting-k-requires-in-acting-clause-states c item h =
    let new = c.act.new.chart.sets in
    let stand = grown_stand c.args.g.now c.args.doc.now c.args.at c.acting.chart.sets new c.in_ok-act.ensures.grown c.acting.invariant.ready.stand in
    let there = acts_there c.args.g.now c.args.facts.now c.requires.facts c.args.doc.now c.args.at new stand item (subst (λ (l : List Item). Contains l item) c.items-in-acting-2.ensures h) in
    subst (λ (l : List Bool). item.state < length l) (sym c.deref-in-acting.ensures.value) there

pub next_acting-k-requires-in-acting-clause-from : goal.next_acting-k-requires-in-acting-clause-from
next_acting-k-requires-in-acting-clause-from c =
    let at = c.args.at in
    let new = c.act.new.chart in
    let longer = slice_get_within (items_of new at) c.acting.k c.item-item.result (put_item_more at (Standing c.args.g.now c.args.doc.now at) c.acting.chart.sets new.sets c.in_ok-act.ensures.grown c.acting.k c.item-item.result c.item-item.ensures) in
    subst (λ (l : List Item). c.acting.k + 1 ≤ length l) (sym c.items-in-acting-2.ensures) (omega (arith, longer))

pub act-requires-clause-stands : goal.act-requires-clause-stands
act-requires-clause-stands c =
    c.acting.invariant.ready.stand c.args.at c.item-item.result (contains_of (items_of c.acting.chart c.args.at) c.acting.k c.item-item.result c.item-item.ensures)

-- all items below one and that one are settled
settled_below : (g : Grammar) (w : List ℕ) (at k : ℕ) (old new : List (List Item)) (item : Item) → Grown g w at old new → slice_get (set_at old at) k ≡ Some item → ((m : ℕ) → m < k → IsSettledAt g old at m) → ((c : Place) → IsNumber g item.state c → IsSettled g (HasPlace g new) at c item.origin)
    → (m : ℕ) → m < k + 1 → IsSettledAt g new at m
settled_below g w at k old new item grown there before here m below =
    let lt : k < length (set_at old at) = slice_get_within (set_at old at) k item there in
    elim (cases_lt m k) [
      | inl less ↦ settled_at_more g w at old new grown m (omega arith) (before m less)
      | inr le ↦ (let e : k ≡ m = omega arith in subst (λ n. IsSettledAt g new at n) e (settled_by_place g w old new at k item grown lt there here))
    ]

pub acting-init : goal.acting-init
acting-init c =
    let at = c.args.at in
    let chart = c.args.chart.now in
    let next = c.next_acting-k in
    let past = past_idle c.args.g.now c.args.facts.now c.requires.facts chart at 0 next.result c.deref.result.now c.items.result.now c.deref.ensures.value c.items.ensures (omega arith) next.ensures.idle (λ m lt. absurd (omega (arith, lt))) c.requires.waits in
    record {
      within = subst (λ (l : List Item). next.result ≤ length l) c.items.ensures next.ensures.within;
      grown = grown_none c.args.g.now c.args.doc.now at chart.sets;
      ready = c.requires.open;
      marks = refl;
      called = c.requires.called;
      settled = past.0;
      earlier = λ j non ne. refl;
      waits = past.1;
      before = refl;
    }

pub acting-preserved : goal.acting-preserved
acting-preserved c =
    let g = c.args.g.now in
    let at = c.args.at in
    let k = c.acting.k in
    let old = c.acting.chart in
    let new = c.act.new.chart in
    let inv = c.acting.invariant in
    let item = c.item-item.result in
    let there = c.item-item.ensures in
    let done = c.in_ok-act.ensures in
    let grown = done.grown in
    let settled = settled_below g c.args.doc.now at k old.sets new.sets item grown there inv.settled done.settled in
    let waits = waits_more g c.args.doc.now old new at k item inv.waits there done.waited grown in
    let next = c.next_acting-k-in-acting in
    let past = past_idle g c.args.facts.now c.requires.facts new at (k + 1) next.result c.deref-in-acting.result.now c.items-in-acting-2.result.now c.deref-in-acting.ensures.value c.items-in-acting-2.ensures next.ensures.from next.ensures.idle settled waits in
    record {
      within = subst (λ (l : List Item). next.result ≤ length l) c.items-in-acting-2.ensures next.ensures.within;
      grown = grown_then g c.args.doc.now at c.args.chart.now.sets old.sets new.sets inv.grown grown;
      ready = open_more g c.args.doc.now at old new grown (λ j non below. let ne : j ≢ at = omega arith in done.waited.elsewhere j non ne) inv.ready;
      marks = c.act.ensures.marks ∙ inv.marks;
      called = done.called;
      settled = past.0;
      earlier = λ j non ne. done.waited.elsewhere j non ne ∙ inv.earlier j non ne;
      waits = past.1;
      before = c.act.ensures.before ∙ inv.before;
    }
