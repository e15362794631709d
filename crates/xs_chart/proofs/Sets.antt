-- The sets of a chart: finished ones, and the last one.
use Rattle.std.proofs.Common.{◌≡◌, ◌≢◌, ℕ, zero, suc, ◌+◌, ◌-◌, ◌<◌, ◌≤◌, inl, inr, map, slice_range, slice_get, Some, Bool, true, false, List, [], ◌∷◌, ◌++◌, length, get_or, set, take, drop, All, if◌then◌else◌, refl, sym, ◌∙◌, ap, subst, arith}
use Rattle.std.proofs.lemmas.Bool.{cases_lt}
use Rattle.std.proofs.lemmas.Option.{none-some}
use Rattle.std.proofs.lemmas.List.{length-append, length-map, length-take, length-take-le, get_or_at, get_or_append_left, get_or_past, set_at}
use Rattle.std.proofs.lemmas.List.Elements.{All-head, All-tail, All-take, All-get_or}
use Rattle.xs_chart.specs.declared.item.Item.{Item}
use Rattle.xs_chart.specs.declared.waiting.Waiter.{Waiter}
use Rattle.xs_chart.specs.Charted.{Charted, items_of, waiting_of, waiting_for, number_of, grouped, last_set, with_item, with_items}
use Rattle.xs_chart.specs.Different.{AreDifferent}
use Rattle.xs_chart.specs.Kept.{opened, seen, IsGrouped, IsKept}
use Rattle.xs_chart.proofs.Grouping.{waiting_grouped, grouped_same}

length_opened : {A : Type 0} (xs : List A) (x : A) → length (opened true xs x) ≡ suc (length xs)
length_opened xs x = let e = length-append xs (x ∷ []) in omega (arith, e)

module _ {o : Bool} {items : List (List Item)} {last : List Item} {waits : List (List Waiter)} (entries : List Waiter) (kept : IsKept o items last waits) (opens : o ≡ true) where
  pub last_is : last_set (seen o items last waits entries) ≡ length items
  last_is = subst (λ b. length (opened b items last) - 1 ≡ length items) (sym opens) (let e = length_opened items last in omega (arith, e))

  -- the last set's items
  pub last_items : items_of (seen o items last waits entries) (last_set (seen o items last waits entries)) ≡ last
  last_items = ap (items_of (seen o items last waits entries)) last_is ∙ subst (λ b. get_or (opened b items last) (length items) [] ≡ last) (sym opens) (get_or_at items last [] [] (length items) refl)

  -- what waits there
  pub last_waits : (non : ℕ) → waiting_of (seen o items last waits entries) (last_set (seen o items last waits entries)) non ≡ waiting_for entries non
  last_waits non =
      ap (λ j. waiting_of (seen o items last waits entries) j non) last_is
      ∙ ap (λ ws. waiting_for ws non) (subst (λ b. get_or (opened b waits (grouped entries)) (length items) [] ≡ grouped entries) (sym opens) (get_or_at waits (grouped entries) [] [] (length items) kept.paired))
      ∙ waiting_grouped entries non

  -- items more
  pub items_more : (more new : List Item) → new ≡ last ++ more → seen o items new waits entries ≡ with_items (seen o items last waits entries) more
  items_more more new is =
      let put : opened o items new ≡ set (opened o items last) (length items) (last ++ more)
      = ap (opened o items) is ∙ subst (λ b. opened b items (last ++ more) ≡ set (opened b items last) (length items) (last ++ more)) (sym opens) (sym (set_at items last [] (last ++ more) (length items) refl)) in
      let there : set (opened o items last) (length items) (last ++ more) ≡ set (opened o items last) (last_set (seen o items last waits entries)) (items_of (seen o items last waits entries) (last_set (seen o items last waits entries)) ++ more)
      = ap (λ j. set (opened o items last) j (last ++ more)) (sym last_is) ∙ ap (λ l. set (opened o items last) (last_set (seen o items last waits entries)) (l ++ more)) (sym last_items) in
      ap (λ (s : List (List Item)). let c : Charted = record { sets = s; waits = opened o waits (grouped entries) } in c) (put ∙ there)

  -- an item more, or none
  pub item_more : (item : Item) (new : List Item) (added : Bool) → new ≡ (if added then last ++ item ∷ [] else last)
      → seen o items new waits entries ≡ (if added then with_item (seen o items last waits entries) item else seen o items last waits entries)
  item_more item new true is = items_more (item ∷ []) new is
  item_more item new false is = ap (λ l. seen o items l waits entries) is

  -- the items of a set before it
  earlier_items : (j : ℕ) → j < length items → items_of (seen o items last waits entries) j ≡ get_or items j []
  earlier_items j lt = subst (λ b. get_or (opened b items last) j [] ≡ get_or items j []) (sym opens) (get_or_append_left items (last ∷ []) [] j lt)

  -- and what waits there
  earlier_waits : (j non : ℕ) → j < length items → waiting_of (seen o items last waits entries) j non ≡ waiting_for (get_or waits j []) non
  earlier_waits j non lt = ap (λ ws. waiting_for ws non) (subst (λ b. get_or (opened b waits (grouped entries)) j [] ≡ get_or waits j []) (sym opens) (get_or_append_left waits (grouped entries ∷ []) [] j (let e = kept.paired in omega (arith, lt, e))))

  -- an entry more in the last set
  pub entry_more : (new : List Waiter) (non : ℕ) (more : List ℕ) → waiting_for new non ≡ waiting_for entries non ++ more
      → waiting_of (seen o items last waits new) (last_set (seen o items last waits entries)) non ≡ waiting_of (seen o items last waits entries) (last_set (seen o items last waits entries)) non ++ more
  entry_more new non more is =
      ap (λ j. waiting_of (seen o items last waits new) j non) last_is
      ∙ ap (λ ws. waiting_for ws non) (subst (λ b. get_or (opened b waits (grouped new)) (length items) [] ≡ grouped new) (sym opens) (get_or_at waits (grouped new) [] [] (length items) kept.paired))
      ∙ waiting_grouped new non ∙ is ∙ ap (λ l. l ++ more) (sym (last_waits non))

-- what waits in an open set
pub open_waits : {o : Bool} {items : List (List Item)} {last : List Item} {waits : List (List Waiter)} (entries : List Waiter) → IsKept o items last waits → (set : ℕ) → set ≡ length items → set < length (opened o items last) → (non : ℕ) → waiting_of (seen o items last waits entries) set non ≡ waiting_for entries non
open_waits {o = true} {items = items} {last = last} {waits = waits} entries kept set is there non = ap (λ j. waiting_of (seen true items last waits entries) j non) (is ∙ sym (last_is entries kept refl)) ∙ last_waits entries kept refl non
open_waits {o = false} entries kept set is there non = absurd (omega (arith, is, there))

-- and in a finished one
pub finished_waits : {o : Bool} {items : List (List Item)} {last : List Item} {waits : List (List Waiter)} (entries : List Waiter) → IsKept o items last waits → (set : ℕ) → set < length items → (non : ℕ) → waiting_of (seen o items last waits entries) set non ≡ waiting_for (get_or waits set []) non
finished_waits {o = true} entries kept set lt non = earlier_waits entries kept refl set non lt
finished_waits {o = false} entries kept set lt non = refl

-- a set is open or finished
pub finished_set : {o : Bool} {items : List (List Item)} {last : List Item} {waits : List (List Waiter)} → IsKept o items last waits → (set : ℕ) → set ≢ length items → set < length (opened o items last) → set < length items
finished_set {o = true} {items = items} {last = last} kept set ne there = let long = length_opened items last in omega (arith, ne, there, long)
finished_set {o = false} kept set ne there = there

-- where something waits there is a set
pub waits_there : {o : Bool} {items : List (List Item)} {last : List Item} {waits : List (List Waiter)} (entries : List Waiter) → IsKept o items last waits → (set non n : ℕ) → n < length (waiting_of (seen o items last waits entries) set non) → set < length (opened o items last)
waits_there {o} {items} {last} {waits} entries kept set non n lt = elim (cases_lt set (length (opened o items last))) [
  | inl there ↦ there
  | inr past ↦
      let none = get_or_past (opened o waits (grouped entries)) set [] (omega (arith, past, as_many o)) in
      let long = ap (λ ws. length (waiting_for ws non)) none in
      absurd (omega (arith, lt, long))
]
  where
    as_many : (b : Bool) → length (opened b waits (grouped entries)) ≡ length (opened b items last)
    as_many true = length_opened waits (grouped entries) ∙ ap suc kept.paired ∙ sym (length_opened items last)
    as_many false = kept.paired

-- entry n of a stretch
number_at : (waits : List Waiter) (from count n : ℕ) (d : Waiter) → from + count ≤ length waits → n < count → slice_get (map number_of (take count (drop from waits))) n ≡ Some (get_or waits (from + n) d).number
number_at [] from count n d within lt = absurd (omega (arith, within, lt))
number_at (w ∷ waits) zero zero n d within lt = absurd (omega (arith, lt))
number_at (w ∷ waits) zero (suc count) zero d within lt = refl
number_at (w ∷ waits) zero (suc count) (suc n) d within lt =
    let before : zero + n ≡ n = omega arith in
    let at : zero + suc n ≡ suc n = omega arith in
    number_at waits zero count n d (omega (arith, within)) (omega (arith, lt)) ∙ ap (λ k. Some (get_or waits k d).number) before ∙ sym (ap (λ k. Some (get_or (w ∷ waits) k d).number) at)
number_at (w ∷ waits) (suc from) count n d within lt =
    let at : suc from + n ≡ suc (from + n) = omega arith in
    number_at waits from count n d (omega (arith, within)) lt ∙ sym (ap (λ k. Some (get_or (w ∷ waits) k d).number) at)

pub entry_of : (waits : List Waiter) (from count n : ℕ) (d : Waiter) → from + count ≤ length waits → n < length (map number_of (slice_range waits from (from + count))) → slice_get (map number_of (slice_range waits from (from + count))) n ≡ Some (get_or waits (from + n) d).number
entry_of waits from count n d within lt =
    let long : from + count - from ≡ count = omega arith in
    let below : n < count = omega (arith, lt, long, length-map (slice_range waits from (from + count)) number_of, length-take (from + count - from) (drop from waits)) in
    ap (λ k. slice_get (map number_of (take k (drop from waits))) n) long ∙ number_at waits from count n d within below

-- a set before the open last one, with what waits there
pub earlier_set : {o : Bool} {items : List (List Item)} {last : List Item} {waits : List (List Waiter)} {now : Charted} (entries : List Waiter) → IsKept o items last waits → o ≡ true → seen o items last waits entries ≡ now → (j non : ℕ) → suc j < length now.sets
    → (items_of now j ≡ get_or items j []) × (waiting_of now j non ≡ waiting_for (get_or waits j []) non)
earlier_set {o} {items} {last} {waits} {now} entries kept opens same j non before =
    let count : length now.sets ≡ suc (length items) = sym (ap (λ (x : Charted). length x.sets) same) ∙ subst (λ b. length (opened b items last) ≡ suc (length items)) (sym opens) (length_opened items last) in
    let lt : j < length items = omega (arith, before, count) in (
      ap (λ (x : Charted). items_of x j) (sym same) ∙ earlier_items entries kept opens j lt,
      ap (λ (x : Charted). waiting_of x j non) (sym same) ∙ earlier_waits entries kept opens j non lt,
    )

split_last : {A : Type 0} (xs : List A) (n : ℕ) (d : A) → suc n ≡ length xs → take n xs ++ get_or xs n d ∷ [] ≡ xs
split_last [] n d is = absurd (omega (arith, is))
split_last (x ∷ []) zero d is = refl
split_last (x ∷ y ∷ xs) zero d is = absurd (omega (arith, is))
split_last (x ∷ xs) (suc n) d is = ap (λ l. x ∷ l) (split_last xs n d (omega (arith, is)))

-- the last of the finished sets is seen as it was where it is opened again
pub seen_reopened : (set : ℕ) (items : List (List Item)) (last new : List Item) (waits : List (List Waiter)) (row : List Waiter) → suc set ≡ length items → IsKept false items last waits → new ≡ get_or items set [] → row ≡ get_or waits set [] → seen true (take set items) new (take set waits) row ≡ record { sets = items; waits = waits }
seen_reopened set items last new waits row is kept new_is row_is =
    let wide : suc set ≡ length waits = is ∙ sym kept.paired in
    let up : IsGrouped row = subst IsGrouped (sym row_is) (All-get_or IsGrouped waits set [] (omega (arith, wide)) kept.grouped) in
    let sets : take set items ++ new ∷ [] ≡ items = ap (λ (l : List Item). take set items ++ l ∷ []) new_is ∙ split_last items set [] is in
    let rows : take set waits ++ grouped row ∷ [] ≡ waits = ap (λ (l : List Waiter). take set waits ++ l ∷ []) (grouped_same row up ∙ row_is) ∙ split_last waits set [] wide in
    ap (λ (s : List (List Item)). let c : Charted = record { sets = s; waits = take set waits ++ grouped row ∷ [] } in c) sets
    ∙ ap (λ (ws : List (List Waiter)). let c : Charted = record { sets = items; waits = ws } in c) rows

-- the last of the finished sets is opened again
pub kept_reopened : (set : ℕ) (items : List (List Item)) (last new : List Item) (waits : List (List Waiter)) → suc set ≡ length items → IsKept false items last waits → AreDifferent new → IsKept true (take set items) new (take set waits)
kept_reopened set items last new waits is kept different =
    let long = length-take-le set items (omega (arith, is)) in
    let wide = length-take-le set waits (omega (arith, is, kept.paired)) in
    record {
      counted = (let e = length-append (take set items) ([] ∷ []) in let below = kept.counted in omega (arith, e, long, is, below));
      paired = wide ∙ sym long;
      different = All-take AreDifferent set items kept.different;
      last_different = different;
      grouped = All-take IsGrouped set waits kept.grouped;
    }

-- the sets have different items
pub different_sets : (o : Bool) (items : List (List Item)) (last : List Item) → All AreDifferent items → AreDifferent last → (k : ℕ) → AreDifferent (get_or (opened o items last) k [])
different_sets o [] last all own k = by o k
  where
    nothing : AreDifferent {A = Item} []
    nothing j k item a b = absurd (none-some item a)

    by : (o : Bool) (k : ℕ) → AreDifferent (get_or (opened o [] last) k [])
    by true zero = own
    by true (suc k) = nothing
    by false k = nothing
different_sets true (s ∷ items) last all own zero = All-head AreDifferent s items all
different_sets true (s ∷ items) last all own (suc k) = different_sets true items last (All-tail AreDifferent s items all) own k
different_sets false (s ∷ items) last all own zero = All-head AreDifferent s items all
different_sets false (s ∷ items) last all own (suc k) = different_sets false items last (All-tail AreDifferent s items all) own k

-- a list more is there at its own place alone
pub pushed_elsewhere : {A : Type 0} (xs : List (List A)) (x : List A) (k : ℕ) → k ≢ length xs → get_or (xs ++ x ∷ []) k [] ≡ get_or xs k []
pushed_elsewhere [] x zero ne = absurd (ne refl)
pushed_elsewhere [] x (suc k) ne = refl
pushed_elsewhere (y ∷ xs) x zero ne = refl
pushed_elsewhere (y ∷ xs) x (suc k) ne = pushed_elsewhere xs x k (λ e. ne (ap suc e))
