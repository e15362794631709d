-- Lists of different items, and what the tests of a hashed set say of the list of its items.
use Rattle.std.proofs.Common.{◌≡◌, ℕ, zero, suc, ◌+◌, ◌<◌, ◌↔◌, ◌⊎◌, inl, inr, Bool, true, false, not, List, [], ◌∷◌, ◌++◌, length, take, get_or, slice_get, Some, Contains, IsTrue, if◌then◌else◌, rules, refl, sym, ◌∙◌, ap, subst, true≢false, arith}
use Rattle.std.specs.List.{IsDistinct, list_any}
use Rattle.std.proofs.lemmas.Bool.{false≢true}
use Rattle.std.proofs.lemmas.Option.{slice_get-get_or, slice_get_within, get_or_from_slice_get, none-some, same_Some}
use Rattle.std.proofs.lemmas.List.{get_or_default, take_more}
use Rattle.std.proofs.lemmas.Map.Keys.{any_passes_from_place, apart_from_distinct}
use Rattle.indexmap.proofs.CallerLemmas.{Contains-list_any}
use Rattle.xs_chart.specs.declared.item.Item.{Item}
use Rattle.xs_chart.specs.contracts.item.ItemPartialEq.TheImpl as block
use Rattle.xs_chart.specs.Different.{AreDifferent}

abbrev eq : Item → Item → Bool
eq = block.ghosts.eq

same : (x y : Item) → eq x y ≡ true → x ≡ y
same x y h = search rules

itself : (x : Item) → eq x x ≡ true
itself x = search rules

any_from_Contains : (items : List Item) (item : Item) → Contains items item → list_any (eq item) items ≡ true
any_from_Contains items item h =
    any_passes_from_place (eq item) items h.0 item (slice_get-get_or items h.0 item h.1 ∙ ap (λ y. Some y) h.2) (itself item)

-- what the set finds is in the list
pub found_iff : (items : List Item) (item : Item) (found : Bool) → found ≡ list_any (eq item) items → IsTrue found ↔ Contains items item
found_iff items item found is =
    ((λ h. Contains-list_any eq same items item (sym is ∙ h)), (λ h. is ∙ any_from_Contains items item h))

-- and what it adds was not
pub added_iff : (items : List Item) (item : Item) (added : Bool) → added ≡ not (list_any (eq item) items) → IsTrue added ↔ (Contains items item → ⊥)
added_iff items item added is = by (list_any (eq item) items) refl
  where
    by : (b : Bool) → list_any (eq item) items ≡ b → IsTrue added ↔ (Contains items item → ⊥)
    by true e = ((λ h. absurd (true≢false (sym h ∙ is ∙ ap not e))), (λ h. absurd (h (Contains-list_any eq same items item e))))
    by false e = ((λ h there. true≢false (sym (any_from_Contains items item there) ∙ e)), (λ h. is ∙ ap not e))

apart : (items : List Item) (item : Item) (j k : ℕ) → IsDistinct eq items → slice_get items j ≡ Some item → slice_get items k ≡ Some item → j < k → ⊥
apart items item j k distinct at_j at_k lt =
    let here = get_or_from_slice_get items j item item at_j in
    let there = get_or_from_slice_get items k item item at_k in
    let other = apart_from_distinct eq items j k item distinct lt (slice_get_within items k item at_k) in
    true≢false (sym (itself item) ∙ sym (ap (λ y. eq y item) here) ∙ sym (ap (λ y. eq (get_or items j item) y) there) ∙ other)

-- no item stands twice
pub different : (items : List Item) → IsDistinct eq items → AreDifferent items
different items distinct j k item at_j at_k =
    let before : j < k → ⊥ = apart items item j k distinct at_j at_k in
    let after : k < j → ⊥ = apart items item k j distinct at_k at_j in
    omega arith

-- an element of the longer list, before the last one or the last one
pub get_push : {A : Type 0} (xs : List A) (y : A) (k : ℕ) (x : A) → slice_get (xs ++ y ∷ []) k ≡ Some x → (slice_get xs k ≡ Some x) ⊎ ((k ≡ length xs) × (x ≡ y))
get_push [] y zero x e = inr (refl, sym (same_Some y x e))
get_push [] y (suc k) x e = absurd (none-some x e)
get_push (z ∷ xs) y zero x e = inl e
get_push (z ∷ xs) y (suc k) x e = elim (get_push xs y k x e) [ inl h ↦ inl h | inr h ↦ inr (ap suc h.0, h.1) ]

-- different elements, and one that is not among them
pub different_more : {A : Type 0} (xs : List A) (y : A) → AreDifferent xs → (Contains xs y → ⊥) → AreDifferent (xs ++ y ∷ [])
different_more {A} xs y different new j k x at_j at_k = by (get_push xs y j x at_j) (get_push xs y k x at_k)
  where
    never : (n : ℕ) → slice_get xs n ≡ Some x → x ≡ y → ⊥
    never n e same = new (n, slice_get_within xs n x e, get_or_from_slice_get xs n x y e ∙ same)

    by : ((slice_get xs j ≡ Some x) ⊎ ((j ≡ length xs) × (x ≡ y))) → ((slice_get xs k ≡ Some x) ⊎ ((k ≡ length xs) × (x ≡ y))) → j ≡ k
    by (inl a) (inl b) = different j k x a b
    by (inl a) (inr b) = absurd (never j a b.1)
    by (inr a) (inl b) = absurd (never k b a.1)
    by (inr a) (inr b) = a.0 ∙ sym b.0

pub different_none : AreDifferent {A = Item} []
different_none j k item a b = absurd (none-some item a)

-- an element of different ones is not among those before it
pub not_before : {A : Type 0} (xs : List A) (n : ℕ) (d : A) → n < length xs → AreDifferent xs → Contains (take n xs) (get_or xs n d) → ⊥
not_before {A} xs n d lt different h =
    let k = h.0 in
    let at = front n xs k h.1 in
    let same : get_or xs k d ≡ get_or xs n d = sym at.0 ∙ get_or_default (take n xs) k d (get_or xs n d) h.1 ∙ h.2 in
    let one : k ≡ n = different k n (get_or xs n d) (slice_get-get_or xs k d at.2 ∙ ap (λ x. Some x) same) (slice_get-get_or xs n d lt) in
    omega (arith, one, at.1)
  where
    front : (m : ℕ) (ys : List A) (k : ℕ) → k < length (take m ys) → (get_or (take m ys) k d ≡ get_or ys k d) × (k < m) × (k < length ys)
    front zero ys k h = absurd (omega (arith, h))
    front (suc m) [] k h = absurd (omega (arith, h))
    front (suc m) (y ∷ ys) zero h = (refl, omega arith, omega arith)
    front (suc m) (y ∷ ys) (suc k) h = let r = front m ys k (omega (arith, h)) in (r.0, omega (arith, r.1), omega (arith, r.2))

-- what stands for an item that is not there
abbrev pub no_item : Item
no_item = record { state = 0; origin = 0 }

-- one of different items is added to those before it
pub added_all : (items : List Item) (n : ℕ) → n < length items → (old new : List Item) (added : Bool) → AreDifferent items → old ≡ take n items
    → IsTrue added ↔ (Contains old (get_or items n no_item) → ⊥) → new ≡ (if added then old ++ get_or items n no_item ∷ [] else old) → new ≡ take (n + 1) items
added_all items n lt old new true different is iff e = e ∙ ap (λ l. l ++ get_or items n no_item ∷ []) is ∙ sym (take_more items n no_item lt)
added_all items n lt old new false different is iff e =
    absurd (false≢true (iff.1 (λ h. not_before items n no_item lt different (subst (λ (l : List Item). Contains l (get_or items n no_item)) is h))))

-- an item that is not there is added
pub added_absent : (old new : List Item) (item : Item) (added : Bool) → (Contains old item → ⊥) → IsTrue added ↔ (Contains old item → ⊥) → new ≡ (if added then old ++ item ∷ [] else old) → new ≡ old ++ item ∷ []
added_absent old new item true absent iff e = e
added_absent old new item false absent iff e = absurd (false≢true (iff.1 absent))
