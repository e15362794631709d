-- The items that wait for a nonterminal in an earlier set, and what is after them.
use Rattle.std.proofs.Common.{◌≡◌, ℕ, suc, List, [], length, refl, sym, ◌∙◌, ap, subst, arith}
use Rattle.std.specs.Prelude.{Contains, slice_get, slice_index_or}
use Rattle.std.proofs.lemmas.List.{length-map, get_or-map}
use Rattle.xs_class.proofs.Lists.{get_of, contains_of, some_same}
use Rattle.xs_chart.specs.declared.item.Item.{Item}
use Rattle.xs_chart.specs.Advancing.{after, AreThere, Advanced}
use Rattle.xs_chart.specs.Charted.{Charted, items_of, waiting_of, waiting_for}
use Rattle.xs_gram.specs.declared.parts.GItem.TheVariants.{Non}
use Rattle.xs_gram.specs.declared.places.Place.{Place}
use Rattle.xs_gram.specs.Grammar.{Grammar}
use Rattle.xs_gram.specs.Places.{all_places}
use Rattle.xs_chart_laws.specs.Steps.{next_of, IsBefore}
use Rattle.xs_chart_laws.specs.Charts.{IsNumber, IsNumberBefore, set_at, HasPlace}
use Rattle.xs_chart_laws.proofs.Words.{get_lt}
use Rattle.xs_chart_laws.proofs.Numbers.{one_place}
use Rattle.xs_earley.specs.declared.facts.Facts.{Facts}
use Rattle.xs_earley.specs.Adding.{Adds, IsOf, Completes}
use Rattle.xs_earley.specs.Facts.{row_at, no_row, next_at, AreFacts}
use Rattle.xs_earley.specs.Growing.{IsExact}
use Rattle.xs_earley.proofs.Additions.{puts_weaker, appended_puts, last_at}
use Rattle.xs_earley.proofs.Settlings.{row_there}

pub waiting_same : (old now : Charted) (j non : ℕ) → now.waits ≡ old.waits → waiting_of now j non ≡ waiting_of old j non
waiting_same old now j non e = ap (λ ws. waiting_for (slice_index_or ws j []) non) e

-- a place before a nonterminal is the place of its number
pub before_at : (g : Grammar) (state non : ℕ) (place : Place) → IsNumberBefore g state non → IsNumber g state place → IsBefore g place non
before_at g state non place h num = subst (λ d. IsBefore g d non) (one_place g state h.0 place h.1 num) h.2

-- the item before a nonterminal has a next place, by its number
next_number : (g : Grammar) (f : Facts) → AreFacts g f → (state non : ℕ) (place : Place) → IsNumber g state place → IsBefore g place non → IsNumber g (slice_index_or f.nexts.items state 0) (next_of place)
next_number g f facts state non place num before =
    let lt = get_lt (all_places g) state place num in
    let row = facts.rows.each state place lt num in
    let within = row_there g f facts state lt in
    let is : slice_index_or f.nexts.items state 0 ≡ (row_at f.rows.items state).next
    = ap (λ (l : List ℕ). slice_index_or l state 0) facts.nexts ∙ get_or-map next_at f.rows.items state no_row 0 within in
    subst (λ n. IsNumber g n (next_of place)) (sym is) (row.next (Non non before.1) before.2)

module _ (g : Grammar) (f : Facts) (facts : AreFacts g f) (old : Charted) (from non : ℕ) (exact : IsExact g old from non) where
  -- each waiting item has a next one
  pub waiters_there : AreThere f.nexts.items (items_of old from) (waiting_of old from non)
  waiters_there k h =
      let x = (exact k).0 h in
      let lt = get_lt (all_places g) x.0.state x.2.0 x.2.1 in
      let long : length f.nexts.items ≡ length (all_places g) = ap length facts.nexts ∙ length-map f.rows.items next_at ∙ facts.rows.counted in
      (x.0, x.1, omega (arith, lt, long))

  -- what the last set gets is what is after the nonterminal for the items that stand before it
  pub completes_made : (at : ℕ) (new : Charted) → length old.sets ≡ suc at → Advanced f.nexts.items from non old new → Adds g at (Completes g old.sets from non) old.sets new.sets
  completes_made at new last done = record {
    puts = puts_weaker at (Contains done.more) (IsOf g (Completes g old.sets from non)) old.sets new.sets each (appended_puts old new at done.more last done.is);
    there = there;
  }
    where
      each : (item : Item) → Contains done.more item → IsOf g (Completes g old.sets from non) item
      each item h =
          let (k, waits, was, e, is) = done.each item h in
          let x = (exact k).0 waits in
          let one = some_same (slice_get (items_of old from) k) x.0 was x.1 e in
          let before : IsNumberBefore g was.state non = subst (λ (y : Item). IsNumberBefore g y.state non) one x.2 in
          let place = before.0 in
          let there : Contains (set_at old.sets from) was = contains_of (items_of old from) k was e in
          let origin : item.origin ≡ was.origin = ap (λ (y : Item). y.origin) is in
          let number = next_number g f facts was.state non place before.1 before.2 in
          (next_of place, subst (λ (y : Item). IsNumber g y.state (next_of place)) (sym is) number, (place, (was.state, before.1, subst (λ o. Contains (set_at old.sets from) (record { state = was.state; origin = o })) (sym origin) there), before.2, refl))

      there : (c : Place) (i : ℕ) → Completes g old.sets from non c i → HasPlace g new.sets at c i
      there c i (d, h, before, is) =
          let item : Item = record { state = h.0; origin = i } in
          let x = get_of (items_of old from) item h.2 in
          let next = after f.nexts.items item in
          let put = done.there next (x.0, (exact x.0).1 (item, x.1, (d, h.1, before)), item, x.1, refl) in
          (next.state, subst (λ (p : Place). IsNumber g next.state p) (sym is) (next_number g f facts h.0 non d h.1 before), subst (λ k. Contains (set_at new.sets k) next) (last_at old at last) put)
