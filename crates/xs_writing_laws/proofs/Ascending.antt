-- Attributes in ascending order of their names' numbers.
use Rattle.std.proofs.Common.{◌≡◌, ◌≢◌, ◌∙◌, ◌⊎◌, ◌<◌, ◌≤◌, ℕ, suc, List, [], ◌∷◌, map, get_or, Bool, true, false, cond, ltb, Some, refl, sym, ap, subst, inl, inr, arith, encode_utf8_all, if◌then◌else◌}
use Rattle.std.specs.Prelude.{slice_get}
use Rattle.std.specs.List.{insert}
use Rattle.std.specs.Ordering.{nat_cmp, is_lt}
use Rattle.std.specs.Cmp.Lexicographic.{slice_cmp}
use Rattle.std.specs.declared.cmp.Ordering.TheVariants.{Less, Equal}
use Rattle.std.proofs.lemmas.Bool.{cases_lt}
use Rattle.std.proofs.lemmas.Bool.Decides.{nat_tests}
use Rattle.std.proofs.lemmas.Cmp.{tied_itself, nat_list_cmp_total}
use Rattle.std.proofs.lemmas.Option.{same_Some, get_or_from_slice_get, slice_get_within}
use Rattle.xs_class.specs.Ordered.{IsBefore, IsOrdered}
use Rattle.xs_sheet.specs.declared.x_item.Attr.{Attr}
use Rattle.xs_gram.specs.Building.{EachOf}
use Rattle.xs_pair.specs.Rules.{IsAmong, HasRepeat}
use Rattle.xs_pair.specs.Units.{number_of, or_zero}
use Rattle.xs_pair.specs.Marks.{is_before, place_before, placed, by_name, attr_names}
use Rattle.xs_pair.proofs.Places.{found_there}
use Rattle.xs_pair.proofs.Lists.{each_inserted, each_insert}
use Rattle.xs_class.proofs.Places.{not_lower}
use Rattle.xs_pair.proofs.Buildable.{same_number, repeat_later}

-- a number put before the first one above it
abbrev put : ℕ → List ℕ → List ℕ
put x [] = x ∷ []
put x (n ∷ ns) = cond (ltb x n) (x ∷ n ∷ ns) (n ∷ put x ns)

abbrev put_all : List ℕ → List ℕ → List ℕ
put_all ns [] = ns
put_all ns (x ∷ xs) = put_all (put x ns) xs

-- the numbers rise strictly from low on
abbrev pub Rises : ℕ → List ℕ → Type 0
Rises low [] = Unit {0}
Rises low (n ∷ ns) = (low ≤ n) × Rises (suc n) ns

-- no number stands twice
abbrev Once : List ℕ → Type 0
Once [] = Unit {0}
Once (x ∷ xs) = EachOf (λ m. m ≢ x) xs × Once xs

abbrev Apart : List ℕ → List ℕ → Type 0
Apart ns xs = EachOf (λ x. EachOf (λ n. n ≢ x) ns) xs

below_tested : (x n : ℕ) → x < n → ltb x n ≡ true
below_tested x n lt = grind (arith, nat_tests)

above_tested : (x n : ℕ) → n ≤ x → ltb x n ≡ false
above_tested x n le = grind (arith, nat_tests)

put_each : (P : ℕ → Type 0) (x : ℕ) (ns : List ℕ) → P x → EachOf P ns → EachOf P (put x ns)
put_each P x [] p q = (p, tt)
put_each P x (n ∷ ns) p q = by (ltb x n) (put_each P x ns p q.1)
  where
    by : (b : Bool) → EachOf P (put x ns) → EachOf P (cond b (x ∷ n ∷ ns) (n ∷ put x ns))
    by true rest = (p, (q.0, q.1))
    by false rest = (q.0, rest)

rises_put : (low x : ℕ) (ns : List ℕ) → Rises low ns → low ≤ x → EachOf (λ n. n ≢ x) ns → Rises low (put x ns)
rises_put low x [] up le apart = (le, tt)
rises_put low x (n ∷ ns) up le apart = by (cases_lt x n) (cases_lt n x) (λ lt. rises_put (suc n) x ns up.1 lt apart.1)
  where
    by : (x < n) ⊎ (n ≤ x) → (n < x) ⊎ (x ≤ n) → (n < x → Rises (suc n) (put x ns)) → Rises low (cond (ltb x n) (x ∷ n ∷ ns) (n ∷ put x ns))
    by (inl lt) other rest = subst (λ b. Rises low (cond b (x ∷ n ∷ ns) (n ∷ put x ns))) (sym (below_tested x n lt)) (le, (lt, up.1))
    by (inr high) (inl lt) rest = subst (λ b. Rises low (cond b (x ∷ n ∷ ns) (n ∷ put x ns))) (sym (above_tested x n high)) (up.0, rest lt)
    by (inr high) (inr low_too) rest = absurd (apart.0 (omega arith))

apart_more : (x : ℕ) (ns xs : List ℕ) → Apart ns xs → EachOf (λ m. m ≢ x) xs → Apart (put x ns) xs
apart_more x ns [] apart once = tt
apart_more x ns (m ∷ xs) apart once = (put_each (λ n. n ≢ m) x ns (λ e. once.0 (sym e)) apart.0, apart_more x ns xs apart.1 once.1)

rises_all : (ns xs : List ℕ) → Rises 0 ns → Apart ns xs → Once xs → Rises 0 (put_all ns xs)
rises_all ns [] up apart once = up
rises_all ns (x ∷ xs) up apart once = rises_all (put x ns) xs (rises_put 0 x ns up (omega arith) apart.0) (apart_more x ns xs apart.1 once.0) once.1

apart_nothing : (xs : List ℕ) → Apart [] xs
apart_nothing [] = tt
apart_nothing (x ∷ xs) = (tt, apart_nothing xs)

earlier : (names : List (List ℕ)) → IsOrdered names → (a b : List ℕ) (j k : ℕ) → slice_get names j ≡ Some a → slice_get names k ≡ Some b → j < k → slice_cmp nat_cmp (encode_utf8_all a) (encode_utf8_all b) ≡ Less
earlier names up a b j k at bt lt =
    subst (λ n. IsBefore n b) (get_or_from_slice_get names j a [] at) (subst (λ n. IsBefore (get_or names j []) n) (get_or_from_slice_get names k b [] bt) (up j k [] lt (slice_get_within names k b bt)))

-- names are in the order of their numbers
in_order : (names : List (List ℕ)) → IsOrdered names → (a b : List ℕ) (j k : ℕ) → slice_get names j ≡ Some a → slice_get names k ≡ Some b → is_before (encode_utf8_all a) b ≡ ltb j k
in_order names up a b j k at bt = by (cases_lt j k) (cases_lt k j)
  where
    by : (j < k) ⊎ (k ≤ j) → (k < j) ⊎ (j ≤ k) → is_before (encode_utf8_all a) b ≡ ltb j k
    by (inl lt) other = ap is_lt (earlier names up a b j k at bt lt) ∙ sym (below_tested j k lt)
    by (inr high) (inl lt) = not_lower _ _ (earlier names up b a k j bt at lt) (nat_list_cmp_total.antisymm (encode_utf8_all a) (encode_utf8_all b)) ∙ sym (above_tested j k high)
    by (inr high) (inr low) =
        let same : j ≡ k = omega arith in
        let one : a ≡ b = same_Some a b (sym at ∙ ap (λ i. slice_get names i) same ∙ bt) in
        let tied : slice_cmp nat_cmp (encode_utf8_all a) (encode_utf8_all b) ≡ Equal = subst (λ n. slice_cmp nat_cmp (encode_utf8_all a) (encode_utf8_all n) ≡ Equal) one (tied_itself nat_list_cmp_total (encode_utf8_all a)) in
        ap is_lt tied ∙ sym (above_tested j k high)

before_is : (names : List (List ℕ)) → IsOrdered names → (a b : List ℕ) → IsAmong names a → IsAmong names b → is_before (encode_utf8_all a) b ≡ ltb (number_of names a) (number_of names b)
before_is names up a b at bt =
    subst (λ i. is_before (encode_utf8_all a) b ≡ ltb i (number_of names b)) (sym (ap or_zero at.1)) (subst (λ i. is_before (encode_utf8_all a) b ≡ ltb at.0 i) (sym (ap or_zero bt.1)) (in_order names up a b at.0 bt.0 (found_there names a at.0 at.1) (found_there names b bt.0 bt.1)))

abbrev pub attr_number : List (List ℕ) → Attr → ℕ
attr_number names a = number_of names a.name

abbrev pub numbers : List (List ℕ) → List Attr → List ℕ
numbers names attrs = map (attr_number names) attrs

abbrev pub AreAmong : List (List ℕ) → List Attr → Type 0
AreAmong names attrs = EachOf (λ (a : Attr). IsAmong names a.name) attrs

put_insert : (names : List (List ℕ)) → IsOrdered names → (a : Attr) (sorted : List Attr) → IsAmong names a.name → AreAmong names sorted → numbers names (insert sorted (place_before (encode_utf8_all a.name) sorted) a) ≡ put (attr_number names a) (numbers names sorted)
put_insert names up a [] at are = refl
put_insert names up a (b ∷ bs) at are =
    subst (λ t. numbers names (insert (b ∷ bs) (place_before (encode_utf8_all a.name) (b ∷ bs)) a) ≡ cond t (attr_number names a ∷ attr_number names b ∷ numbers names bs) (attr_number names b ∷ put (attr_number names a) (numbers names bs))) (before_is names up a.name b.name at are.0) (by (is_before (encode_utf8_all a.name) b.name) (put_insert names up a bs at are.1))
  where
    by : (t : Bool) → numbers names (insert bs (place_before (encode_utf8_all a.name) bs) a) ≡ put (attr_number names a) (numbers names bs) → numbers names (insert (b ∷ bs) (if t then 0 else suc (place_before (encode_utf8_all a.name) bs)) a) ≡ cond t (attr_number names a ∷ attr_number names b ∷ numbers names bs) (attr_number names b ∷ put (attr_number names a) (numbers names bs))
    by true rest = refl
    by false rest = ap (λ ns. attr_number names b ∷ ns) rest

placed_numbers : (names : List (List ℕ)) → IsOrdered names → (sorted attrs : List Attr) → AreAmong names sorted → AreAmong names attrs → numbers names (placed sorted attrs) ≡ put_all (numbers names sorted) (numbers names attrs)
placed_numbers names up sorted [] there are = refl
placed_numbers names up sorted (a ∷ attrs) there are =
    let k : ℕ = place_before (encode_utf8_all a.name) sorted in
    placed_numbers names up (insert sorted k a) attrs (each_insert (λ (b : Attr). IsAmong names b.name) sorted k a are.0 there) are.1 ∙ ap (λ ns. put_all ns (numbers names attrs)) (put_insert names up a sorted are.0 there)

placed_each : (P : Attr → Type 0) (sorted attrs : List Attr) → EachOf P (placed sorted attrs) → EachOf P sorted × EachOf P attrs
placed_each P sorted [] all = (all, tt)
placed_each P sorted (a ∷ attrs) all =
    let k : ℕ = place_before (encode_utf8_all a.name) sorted in
    let both = placed_each P (insert sorted k a) attrs all in
    let first = each_inserted P sorted k a both.0 in
    (first.1, (first.0, both.1))

apart_from : (names : List (List ℕ)) (name : List ℕ) → IsAmong names name → (attrs : List Attr) → AreAmong names attrs → ((k : ℕ) → slice_get (attr_names attrs) k ≡ Some name → ⊥) → EachOf (λ m. m ≢ number_of names name) (numbers names attrs)
apart_from names name among [] are never = tt
apart_from names name among (b ∷ bs) are never = (λ same. never 0 (ap Some (same_number names b.name name are.0 among same)), apart_from names name among bs are.1 (λ k at. never (suc k) at))

numbers_once : (names : List (List ℕ)) (attrs : List Attr) → AreAmong names attrs → (HasRepeat (attr_names attrs) → ⊥) → Once (numbers names attrs)
numbers_once names [] are never = tt
numbers_once names (a ∷ attrs) are never =
    (apart_from names a.name are.0 attrs are.1 (λ k at. never (record { name = a.name; j = 0; k = suc k; before = omega arith; first_at = refl; again_at = at })), numbers_once names attrs are.1 (λ r. never (repeat_later a.name (attr_names attrs) r)))

-- sorted by name, attributes that differ in name have numbers that rise
pub sorted_rise : (names : List (List ℕ)) → IsOrdered names → (attrs : List Attr) → AreAmong names (by_name attrs) → (HasRepeat (attr_names attrs) → ⊥) → Rises 0 (numbers names (by_name attrs))
sorted_rise names up attrs are never =
    let among : AreAmong names attrs = (placed_each (λ (a : Attr). IsAmong names a.name) [] attrs are).1 in
    subst (Rises 0) (sym (placed_numbers names up [] attrs tt among)) (rises_all [] (numbers names attrs) tt (apart_nothing (numbers names attrs)) (numbers_once names attrs among never))
