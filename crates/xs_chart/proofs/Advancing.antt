-- Items after others, added to a list one after another.
use Rattle.std.proofs.Common.{◌≡◌, ◌≢◌, ℕ, zero, suc, ◌+◌, ◌<◌, Bool, true, false, List, [], ◌∷◌, ◌++◌, length, get_or, take, map, if◌then◌else◌, ◌↔◌, ◌⊎◌, inl, inr, Some, refl, sym, ◌∙◌, ap, subst, arith, append_assoc}
use Rattle.std.specs.Prelude.{Contains, slice_get, IsTrue}
use Rattle.std.proofs.lemmas.Bool.{cases_eq, false≢true}
use Rattle.std.proofs.lemmas.Option.{same_Some, get_or_from_slice_get}
use Rattle.std.proofs.lemmas.List.{take_more}
use Rattle.std.proofs.lemmas.List.Elements.{Contains-append_left, Contains-append_right, Contains-append_cases, Contains-push_cases}
use Rattle.xs_chart.specs.declared.item.Item.{Item}
use Rattle.xs_chart.specs.declared.waiting.Waiter.{Waiter}
use Rattle.xs_chart.specs.Charted.{item_from, number_of}
use Rattle.xs_chart.specs.Advancing.{after, HasMore, IsAfter, AreThere}
use Rattle.xs_chart.proofs.Different.{no_item}

pub no_element : {A : Type 0} (x : A) → Contains [] x → ⊥
no_element x h = absurd (omega (arith, h.1))

last_in : (items : List Item) (item : Item) → Contains (items ++ item ∷ []) item
last_in items item = Contains-append_right items (item ∷ []) item (0, omega arith, refl)

-- an item is another one or not
item_cases : (x y : Item) → (x ≡ y) ⊎ (x ≢ y)
item_cases x y = elim (cases_eq x.state y.state) [
  | inr ne ↦ inr (λ e. ne (ap (λ (i : Item). i.state) e))
  | inl s ↦ elim (cases_eq x.origin y.origin) [
    | inr ne ↦ inr (λ e. ne (ap (λ (i : Item). i.origin) e))
    | inl o ↦ inl (ap (λ k. item_from x.origin k) s ∙ ap (λ k. item_from k y.state) o)
  ]
]

-- a list has an item or not
pub contains_cases : (items : List Item) (item : Item) → Contains items item ⊎ (Contains items item → ⊥)
contains_cases [] item = inr (no_element item)
contains_cases (x ∷ items) item = elim (item_cases x item) [
  | inl e ↦ inl (Contains-append_left (x ∷ []) items item (0, omega arith, e))
  | inr n ↦ elim (contains_cases items item) [
    | inl h ↦ inl (Contains-append_right (x ∷ []) items item h)
    | inr never ↦ inr (λ h. elim (Contains-append_cases (x ∷ []) items item h) [ inl one ↦ n (elim (Contains-push_cases [] x item one) [ inl none ↦ absurd (no_element item none) | inr e ↦ e ]) | inr rest ↦ never rest ])
  ]
]

-- one more, unless it was there
pub more_one : (P Q : Item → Type 0) (old now new : List Item) (x : Item) (added : Bool) → ((item : Item) → P item → Q item) → Q x → ((item : Item) → Q item → P item ⊎ (item ≡ x)) → HasMore P old now → IsTrue added ↔ (Contains now x → ⊥) → new ≡ (if added then now ++ x ∷ [] else now) → HasMore Q old new
more_one P Q old now new x true to q split so_far iff is = record {
  more = so_far.more ++ x ∷ [];
  is = is ∙ ap (λ (l : List Item). l ++ x ∷ []) so_far.is ∙ append_assoc old so_far.more (x ∷ []);
  each = λ item h. elim (Contains-push_cases so_far.more x item h) [ inl before ↦ to item (so_far.each item before) | inr e ↦ subst Q e q ];
  there = λ item r. subst (λ (l : List Item). Contains l item) (sym is) (elim (split item r) [ inl p ↦ Contains-append_left now (x ∷ []) item (so_far.there item p) | inr e ↦ subst (λ y. Contains (now ++ x ∷ []) y) (sym e) (last_in now x) ]);
}
more_one P Q old now new x false to q split so_far iff is = record {
  more = so_far.more;
  is = is ∙ so_far.is;
  each = λ item h. to item (so_far.each item h);
  there = λ item r. subst (λ (l : List Item). Contains l item) (sym is) (elim (split item r) [
    | inl p ↦ so_far.there item p
    | inr e ↦ subst (λ y. Contains now y) (sym e) (elim (contains_cases now x) [ inl h ↦ h | inr never ↦ absurd (false≢true (iff.1 never)) ])
  ]);
}

-- the number of an entry is among the numbers
number_in : (waits : List Waiter) (n : ℕ) (d : Waiter) → n < length waits → Contains (map number_of waits) (get_or waits n d).number
number_in [] n d lt = absurd (omega (arith, lt))
number_in (w ∷ waits) zero d lt = (0, omega arith, refl)
number_in (w ∷ waits) (suc n) d lt = let h = number_in waits n d (omega (arith, lt)) in (suc h.0, omega (arith, h.1), h.2)

-- what stands for an entry that is not there
abbrev pub no_waiter : Waiter
no_waiter = record { non = 0; number = 0 }

-- the item of an entry
abbrev pub item_at : List Item → List Waiter → ℕ → Item
item_at items waits n = get_or items (get_or waits n no_waiter).number no_item

-- it is there, and so is a state after its own
pub entry_there : (next : List ℕ) (items : List Item) (waits : List Waiter) (n : ℕ) → n < length waits → AreThere next items (map number_of waits)
    → (slice_get items (get_or waits n no_waiter).number ≡ Some (item_at items waits n)) × ((item_at items waits n).state < length next)
entry_there next items waits n lt there =
    let number = (get_or waits n no_waiter).number in
    let h = there number (number_in waits n no_waiter lt) in
    let same : h.0 ≡ item_at items waits n = sym (get_or_from_slice_get items number h.0 no_item h.1) in
    (subst (λ x. slice_get items number ≡ Some x) same h.1, subst (λ (x : Item). x.state < length next) same h.2)

-- the item of one entry more
pub advance_one : (next : List ℕ) (items : List Item) (waits : List Waiter) (n : ℕ) → n < length waits → AreThere next items (map number_of waits) → (old now new : List Item) (added : Bool)
    → HasMore (IsAfter next items (map number_of (take n waits))) old now → IsTrue added ↔ (Contains now (after next (item_at items waits n)) → ⊥) → new ≡ (if added then now ++ after next (item_at items waits n) ∷ [] else now) → HasMore (IsAfter next items (map number_of (take (n + 1) waits))) old new
advance_one next items waits n lt there old now new added so_far iff is = more_one (IsAfter next items (map number_of (take n waits))) (IsAfter next items (map number_of (take (n + 1) waits))) old now new (after next (item_at items waits n)) added to here split so_far iff is
  where
    was : Item
    was = item_at items waits n

    at : slice_get items (get_or waits n no_waiter).number ≡ Some was
    at = (entry_there next items waits n lt there).0

    number : ℕ
    number = (get_or waits n no_waiter).number

    longer : map number_of (take (n + 1) waits) ≡ map number_of (take n waits) ++ number ∷ []
    longer = ap (map number_of) (take_more waits n no_waiter lt) ∙ map_push (take n waits) (get_or waits n no_waiter)
      where
        map_push : (xs : List Waiter) (y : Waiter) → map number_of (xs ++ y ∷ []) ≡ map number_of xs ++ number_of y ∷ []
        map_push [] y = refl
        map_push (x ∷ xs) y = ap (λ (l : List ℕ). number_of x ∷ l) (map_push xs y)

    to : (item : Item) → IsAfter next items (map number_of (take n waits)) item → IsAfter next items (map number_of (take (n + 1) waits)) item
    to item (k, h, x, e, f) = (k, subst (λ (l : List ℕ). Contains l k) (sym longer) (Contains-append_left (map number_of (take n waits)) (number ∷ []) k h), x, e, f)

    here : IsAfter next items (map number_of (take (n + 1) waits)) (after next (item_at items waits n))
    here = (number, subst (λ (l : List ℕ). Contains l number) (sym longer) (Contains-append_right (map number_of (take n waits)) (number ∷ []) number (0, omega arith, refl)), was, at, refl)

    split : (item : Item) → IsAfter next items (map number_of (take (n + 1) waits)) item → IsAfter next items (map number_of (take n waits)) item ⊎ (item ≡ after next was)
    split item (k, h, x, e, f) = elim (Contains-push_cases (map number_of (take n waits)) number k (subst (λ (l : List ℕ). Contains l k) longer h)) [
      | inl before ↦ inl (k, before, x, e, f)
      | inr same ↦ inr (f ∙ ap (after next) (same_Some x was (sym e ∙ ap (slice_get items) (sym same) ∙ at)))
    ]
