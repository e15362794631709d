-- Items that do not act: each is settled as it stands, and waits for no nonterminal.
use Rattle.std.proofs.Common.{◌≡◌, ℕ, ◌<◌, ◌≤◌, Bool, false, List, length, get_or, Some, inl, inr, refl, sym, ◌∙◌, ap, subst, arith}
use Rattle.std.specs.Prelude.{Contains, slice_get}
use Rattle.std.proofs.lemmas.Bool.{cases_lt, false≢true, or_parts}
use Rattle.std.proofs.lemmas.List.{length-map, get_or-map}
use Rattle.std.proofs.lemmas.Option.{get_or_from_slice_get}
use Rattle.xs_chart.specs.declared.item.Item.{Item}
use Rattle.xs_chart.specs.Charted.{Charted, items_of}
use Rattle.xs_gram.specs.declared.places.Place.{Place}
use Rattle.xs_gram.specs.Grammar.{Grammar}
use Rattle.xs_gram.specs.Places.{all_places}
use Rattle.xs_chart_laws.specs.Charts.{IsNumber, set_at, AllItemsStand}
use Rattle.xs_chart_laws.proofs.Words.{get_lt}
use Rattle.xs_earley.specs.declared.facts.Facts.{Facts}
use Rattle.xs_earley.specs.Facts.{row_at, no_row, leads_on, acts_at, IsRow, AreFacts}
use Rattle.xs_earley.specs.Growing.{IsSettledAt}
use Rattle.xs_earley.specs.Waiting.{IsWaiting, WaitsBelow, IsIdle}
use Rattle.xs_earley.proofs.Settlings.{before_stand, end_stand, row_is, row_there}

module _ (g : Grammar) (f : Facts) (facts : AreFacts g f) where
  -- of each item that stands it is known whether it acts
  pub acts_there : (w : List ℕ) (at : ℕ) (sets : List (List Item)) → AllItemsStand g w sets → (item : Item) → Contains (set_at sets at) item → item.state < length f.acts.items
  acts_there w at sets all item h =
      let st = all at item h in
      let lt = get_lt (all_places g) item.state st.0 st.1 in
      let long : length f.acts.items ≡ length (all_places g) = ap length facts.acts ∙ length-map f.rows.items acts_at ∙ facts.rows.counted in
      omega (arith, lt, long)

  -- neither may such an item be passed over nor does it lead on
  idle_row : (items : List Item) (k : ℕ) (item : Item) (c : Place) → IsIdle f.acts.items items k → slice_get items k ≡ Some item → IsNumber g item.state c → ((row_at f.rows.items item.state).passes ≡ false) × (leads_on (row_at f.rows.items item.state).stand ≡ false)
  idle_row items k item c idle e num =
      let row = row_at f.rows.items item.state in
      let lt = row_there g f facts item.state (get_lt (all_places g) item.state c num) in
      let here : get_or f.acts.items item.state false ≡ false = subst (λ (x : Item). get_or f.acts.items x.state false ≡ false) (get_or_from_slice_get items k item item e) (idle item) in
      let is : get_or f.acts.items item.state false ≡ acts_at row = ap (λ (l : List Bool). get_or l item.state false) facts.acts ∙ get_or-map acts_at f.rows.items item.state no_row false lt in
      or_parts row.passes (leads_on row.stand) (sym is ∙ here)

  idle_settled : (sets : List (List Item)) (at k : ℕ) → IsIdle f.acts.items (set_at sets at) k → IsSettledAt g sets at k
  idle_settled sets at k idle item c e num =
      let row = row_at f.rows.items item.state in
      let is : IsRow g f.letters.items c row = row_is g f facts item.state c num row refl in
      let none = idle_row (set_at sets at) k item c idle e num in
      record {
        passed = λ p. absurd (false≢true (sym none.0 ∙ is.passes.1 p));
        called = λ non q before rule. absurd (false≢true (sym none.1 ∙ ap leads_on (before_stand g f.letters.items c row.stand non is.stand before)));
        completed = λ non d o end lt has before. absurd (false≢true (sym none.1 ∙ ap leads_on (end_stand g f.letters.items c row.stand non is.stand end)));
      }

  idle_waits : (items : List Item) (k non : ℕ) → IsIdle f.acts.items items k → IsWaiting g items non k → ⊥
  idle_waits items k non idle h =
      let item = h.0 in
      let c = h.2.0 in
      let row = row_at f.rows.items item.state in
      let is : IsRow g f.letters.items c row = row_is g f facts item.state c h.2.1 row refl in
      let none = idle_row items k item c idle h.1 h.2.1 in
      false≢true (sym none.1 ∙ ap leads_on (before_stand g f.letters.items c row.stand non is.stand h.2.2))

  -- past idle items all that is before is settled where it was
  settled_past : (sets : List (List Item)) (at from to : ℕ) → ((k : ℕ) → from ≤ k → k < to → IsIdle f.acts.items (set_at sets at) k) → ((m : ℕ) → m < from → IsSettledAt g sets at m) → (m : ℕ) → m < to → IsSettledAt g sets at m
  settled_past sets at from to idle before m below = elim (cases_lt m from) [
    | inl lt ↦ before m lt
    | inr le ↦ idle_settled sets at m (idle m le below)
  ]

  -- and the waiting lists have all that is before
  waits_past : (chart : Charted) (at from to : ℕ) → from ≤ to → ((k : ℕ) → from ≤ k → k < to → IsIdle f.acts.items (items_of chart at) k) → WaitsBelow g chart at from → WaitsBelow g chart at to
  waits_past chart at from to le idle waits = record {
    exact = λ non n. (
      (λ h. let x = (waits.exact non n).0 h in (omega (arith, x.0, le), x.1)),
      (λ h. elim (cases_lt n from) [
        | inl lt ↦ (waits.exact non n).1 (lt, h.1)
        | inr past ↦ absurd (idle_waits (items_of chart at) n non (idle n past h.0) h.1)
      ]),
    );
    once = waits.once;
  }

  -- both, by what a search for the next item that acts was given and has found
  pub past_idle : (chart : Charted) (at from to : ℕ) (acts : List Bool) (items : List Item) → acts ≡ f.acts.items → items ≡ items_of chart at → from ≤ to → ((k : ℕ) → from ≤ k → k < to → IsIdle acts items k) → ((m : ℕ) → m < from → IsSettledAt g chart.sets at m) → WaitsBelow g chart at from
      → ((m : ℕ) → m < to → IsSettledAt g chart.sets at m) × WaitsBelow g chart at to
  past_idle chart at from to acts items same is le idle settled waits =
      let own : (k : ℕ) → from ≤ k → k < to → IsIdle f.acts.items (items_of chart at) k = λ k above below. subst (λ (l : List Item). IsIdle f.acts.items l k) is (subst (λ (l : List Bool). IsIdle l items k) same (idle k above below)) in
      (settled_past chart.sets at from to own settled, waits_past chart at from to le own waits)
