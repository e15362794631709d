-- Names and kinds of slots in tables.
use Rattle.std.proofs.Common.{◌≡◌, ℕ, zero, suc, ◌+◌, ◌-◌, ◌<◌, Bool, true, false, cond, not, nat_lt, List, [], ◌∷◌, ◌++◌, length, take, drop, get_or, Some, None, if◌then◌else◌, ◌==◌, drop-cons, add-one, refl, sym, ap, ◌∙◌, subst, arith}
use Rattle.std.specs.Prelude.{slice_get, bytes_eq}
use Rattle.std.specs.Global.{Vec}
use Rattle.std.specs.List.{position, position_or_len, list_any}
use Rattle.std.specs.Option.{option_map}
use Rattle.std.specs.declared.option.Option.{Option}
use Rattle.std.specs.Cmp.Lexicographic.{bytes_decides}
use Rattle.std.proofs.lemmas.Bool.Decides.{nat_tests}
use Rattle.std.proofs.lemmas.List.{map-append}
use Rattle.std.proofs.lemmas.Option.{none-some, same_Some}
use Rattle.xs_class.specs.Ordered.{place_of}
use Rattle.xs_gram.specs.declared.parts.GItem.{GItem}
use Rattle.xs_gram.specs.declared.parts.GItem.TheVariants.{Fixed, Term, Non, Skip}
use Rattle.xs_gram.specs.Common.{kinds, lookup, of_term, of_non}
use Rattle.xs_gram.specs.Grammar.{slots}
use Rattle.xs_gram.specs.Laws.{Every}
use Rattle.xs_outline.specs.Tables.{name_list, either}

-- tests that decide the same come out the same
same_test : (a b : Bool) → (a ≡ true → b ≡ true) → (b ≡ true → a ≡ true) → a ≡ b
same_test true true f g = refl
same_test true false f g = sym (f refl)
same_test false true f g = g refl
same_test false false f g = refl

pub turned_test : (a b : List ℕ) → bytes_eq a b ≡ bytes_eq b a
turned_test a b = same_test (bytes_eq a b) (bytes_eq b a) (λ e. (bytes_decides b a).1 (sym ((bytes_decides a b).0 e))) (λ e. (bytes_decides a b).1 (sym ((bytes_decides b a).0 e)))

position_next : {X : Type 0} (p : X → Bool) (x : X) (xs : List X) → position p (x ∷ xs) ≡ cond (p x) (Some 0) (option_map suc (position p xs))
position_next p x xs = by (p x) (position_or_len p xs)
  where
    one : (n : ℕ) → ◌≡◌ {A = Option ℕ} (Some (1 + n)) (Some (suc n))
    one n = ap (λ z. Some z) (let P : 1 + n ≡ suc n = omega arith in P)

    below : (n m : ℕ) → nat_lt n m ≡ true → nat_lt (1 + n) (suc m) ≡ true
    below n m e = grind (arith, nat_tests)

    above : (n m : ℕ) → nat_lt n m ≡ false → nat_lt (1 + n) (suc m) ≡ false
    above n m e = grind (arith, nat_tests)

    zero_below : (m : ℕ) → nat_lt 0 (suc m) ≡ true
    zero_below m = grind (arith, nat_tests)

    within : (n : ℕ) (t : Bool) → nat_lt n (length xs) ≡ t → cond (nat_lt (1 + n) (suc (length xs))) (Some (1 + n)) None ≡ option_map suc (cond t (Some n) None)
    within n true e = ap (λ z. cond z (Some (1 + n)) None) (below n (length xs) e) ∙ one n
    within n false e = ap (λ z. cond z (Some (1 + n)) None) (above n (length xs) e)

    by : (b : Bool) (n : ℕ) → cond (nat_lt (cond (not b) (1 + n) 0) (suc (length xs))) (Some (cond (not b) (1 + n) 0)) None ≡ cond b (Some 0) (option_map suc (cond (nat_lt n (length xs)) (Some n) None))
    by true n = ap (λ z. cond z (Some 0) None) (zero_below (length xs))
    by false n = within n (nat_lt n (length xs)) refl

-- a name's place among keys that are tested
pub position_is_place : (test : Vec ℕ → Bool) (name : List ℕ) (keys : List (Vec ℕ)) → ((k : Vec ℕ) → test k ≡ bytes_eq k.items name) → position test keys ≡ place_of (name_list keys) name
position_is_place test name [] same = refl
position_is_place test name (k ∷ keys) same =
    position_next test k keys ∙ ap (λ b. cond b (Some 0) (option_map suc (position test keys))) (same k) ∙ ap (λ o. cond (bytes_eq k.items name) (Some 0) (option_map suc o)) (position_is_place test name keys same)

-- the names of a list of keys
pub name_at : (keys : List (Vec ℕ)) (k : ℕ) (own : Vec ℕ) → k < length keys → own ≡ get_or keys k own → slice_get (name_list keys) k ≡ Some own.items
name_at [] k own lt is = absurd (omega (arith, lt))
name_at (key ∷ keys) zero own lt is = ap (λ (v : Vec ℕ). Some v.items) (sym is)
name_at (key ∷ keys) (suc k) own lt is = name_at keys k own (omega (arith, lt)) is

pub name_below : (keys : List (Vec ℕ)) (k : ℕ) (name : List ℕ) → slice_get (name_list keys) k ≡ Some name → k < length keys
name_below [] k name at = absurd (none-some name at)
name_below (key ∷ keys) zero name at = omega arith
name_below (key ∷ keys) (suc k) name at = let lt = name_below keys k name at in omega (arith, lt)

-- where a key is another name too
pub no_name_more : (keys : List (Vec ℕ)) (k : ℕ) (own : Vec ℕ) (name : List ℕ) → k < length keys → own ≡ get_or keys k own → (own.items ≡ name → ⊥) → ((j : ℕ) → j < k → slice_get (name_list keys) j ≡ Some name → ⊥) → (j : ℕ) → j < k + 1 → slice_get (name_list keys) j ≡ Some name → ⊥
no_name_more keys k own name lt is other before j less_ at = by (nat_lt j k) refl
  where
    by : (b : Bool) → nat_lt j k ≡ b → ⊥
    by true e = before j (let P : j < k = grind (arith, nat_tests) in P) at
    by false e =
        let same : j ≡ k = grind (arith, nat_tests) in
        other (same_Some own.items name (sym (name_at keys k own lt is) ∙ ap (slice_get (name_list keys)) (sym same) ∙ at))

first_names : (m n : List ℕ) (ms ns : List (List ℕ)) → m ∷ ms ≡ n ∷ ns → (m ≡ n) × (ms ≡ ns)
first_names m n ms ns e = (cc, cc)

not_none : (m : List ℕ) (ms : List (List ℕ)) → m ∷ ms ≡ [] → ⊥
not_none m ms e = cc

zero_suc : (s : ℕ) → Some 0 ≡ Some (suc s) → ⊥
zero_suc s e = let same = same_Some 0 (suc s) e in omega (arith, same)

later_place : (o : Option ℕ) (s : ℕ) → option_map suc o ≡ Some (suc s) → o ≡ Some s
later_place None s e = absurd (none_some s e)
  where
    none_some : (n : ℕ) → ◌≡◌ {A = Option ℕ} None (Some (suc n)) → ⊥
    none_some n h = cc
later_place (Some k) s e = ap (λ z. Some z) (let same = same_Some (suc k) (suc s) e in omega (arith, same))

-- a name that first stands at a place is not among those before it
pub none_before : (test : Vec ℕ → Bool) (name : List ℕ) (keys : List (Vec ℕ)) (names : List (List ℕ)) (s : ℕ) → ((k : Vec ℕ) → test k ≡ true → k.items ≡ name) → name_list keys ≡ take s names → place_of names name ≡ Some s → list_any test keys ≡ false
none_before test name [] names s tells are at = refl
none_before test name (k ∷ keys) names zero tells are at = absurd (not_none k.items (name_list keys) are)
none_before test name (k ∷ keys) [] (suc s) tells are at = absurd (not_none k.items (name_list keys) are)
none_before test name (k ∷ keys) (n ∷ names) (suc s) tells are at =
    let same = first_names k.items n (name_list keys) (take s names) are in
    by (test k) refl (bytes_eq n name) refl at same.0 (λ o. none_before test name keys names s tells same.1 o)
  where
    by : (t : Bool) → test k ≡ t → (u : Bool) → bytes_eq n name ≡ u → cond u (Some 0) (option_map suc (place_of names name)) ≡ Some (suc s) → k.items ≡ n → (place_of names name ≡ Some s → list_any test keys ≡ false) → list_any test (k ∷ keys) ≡ false
    by t e true f h own rest = absurd (zero_suc s h)
    by true e false f h own rest = absurd (not_both (sym f ∙ (bytes_decides n name).1 (sym own ∙ tells k e)))
      where
        not_both : false ≡ true → ⊥
        not_both x = cc
    by false e false f h own rest = rw e (rest (later_place (place_of names name) s h))

-- the kinds of items, the first of them first
pub lookup_first : (item : GItem) (items : List GItem) (s : ℕ) → lookup s (kinds (item ∷ items)) ≡ either (lookup s (kinds (item ∷ []))) (lookup s (kinds items))
lookup_first (Fixed f) items s = refl
lookup_first (Skip k) items s = refl
lookup_first (Term t r) items s = by (r == s)
  where
    by : (b : Bool) → (if b then Some (of_term t) else lookup s (kinds items)) ≡ either (if b then Some (of_term t) else None) (lookup s (kinds items))
    by true = refl
    by false = refl
lookup_first (Non n r) items s = by (r == s)
  where
    by : (b : Bool) → (if b then Some (of_non n) else lookup s (kinds items)) ≡ either (if b then Some (of_non n) else None) (lookup s (kinds items))
    by true = refl
    by false = refl

-- the slot of an item of a list
pub slots_at : (n : ℕ) (items : List GItem) (k : ℕ) (item : GItem) → Every (λ s. s < n) (slots items) → k < length items → item ≡ get_or items k item → Every (λ s. s < n) (slots (item ∷ []))
slots_at n [] k item each lt is = absurd (omega (arith, lt))
slots_at n (x ∷ items) zero item each lt is = subst (λ z. Every (λ s. s < n) (slots (z ∷ []))) (sym is) (first_slots x items each)
  where
    first_slots : (y : GItem) (ys : List GItem) → Every (λ s. s < n) (slots (y ∷ ys)) → Every (λ s. s < n) (slots (y ∷ []))
    first_slots (Fixed f) ys all = tt
    first_slots (Skip j) ys all = tt
    first_slots (Term t r) ys all = (all.0, tt)
    first_slots (Non m r) ys all = (all.0, tt)
slots_at n (x ∷ items) (suc k) item each lt is = slots_at n items k item (later_slots x each) (omega (arith, lt)) is
  where
    later_slots : (y : GItem) → Every (λ s. s < n) (slots (y ∷ items)) → Every (λ s. s < n) (slots items)
    later_slots (Fixed f) all = all
    later_slots (Skip j) all = all
    later_slots (Term t r) all = all.1
    later_slots (Non m r) all = all.1

-- one more item from the end
pub item_before : (items : List GItem) (done : ℕ) (item : GItem) → done < length items → item ≡ get_or items (length items - 1 - done) item → drop (length items - (done + 1)) items ≡ item ∷ drop (length items - done) items
item_before items done item lt is =
    let n = length items - (done + 1) in
    let next : suc n ≡ length items - done = omega (arith, lt) in
    let place : length items - 1 - done ≡ n = omega (arith, lt) in
    drop-cons items n item (omega (arith, lt)) ∙ ap (λ z. z ∷ drop (suc n) items) (sym (is ∙ ap (λ k. get_or items k item) place)) ∙ ap (λ k. item ∷ drop k items) next

-- a name more
pub names_push : (keys : List (Vec ℕ)) (v : Vec ℕ) (names : List (List ℕ)) (s : ℕ) → name_list keys ≡ take s names → slice_get names s ≡ Some v.items → name_list (keys ++ v ∷ []) ≡ take (s + 1) names
names_push keys v names s are at =
    map-append (λ (k : Vec ℕ). k.items) keys (v ∷ []) ∙ ap (λ z. z ++ v.items ∷ []) are ∙ sym (take_next names s v.items at) ∙ ap (λ n. take n names) (sym (add-one s))
  where
    take_next : (ns : List (List ℕ)) (k : ℕ) (n : List ℕ) → slice_get ns k ≡ Some n → take (suc k) ns ≡ take k ns ++ n ∷ []
    take_next [] k n e = absurd (none-some n e)
    take_next (m ∷ ns) zero n e = ap (λ z. z ∷ []) (same_Some m n e)
    take_next (m ∷ ns) (suc k) n e = ap (λ z. m ∷ z) (take_next ns k n e)

-- a new name is put last
pub name_inserted : (test : Vec ℕ → Bool) (keys new : List (Vec ℕ)) (v : Vec ℕ) (names : List (List ℕ)) (s : ℕ) → new ≡ (if list_any test keys then keys else keys ++ v ∷ []) → ((k : Vec ℕ) → test k ≡ true → k.items ≡ v.items) → name_list keys ≡ take s names → slice_get names s ≡ Some v.items → place_of names v.items ≡ Some s → name_list new ≡ take (s + 1) names
name_inserted test keys new v names s is tells are at first =
    ap name_list (is ∙ ap (λ b. if b then keys else keys ++ v ∷ []) (none_before test v.items keys names s tells are first)) ∙ names_push keys v names s are at

pub row_push : {A : Type 0} (P : ℕ → A → Type 0) (rows : List A) (row : A) → ((q : ℕ) (r : A) → slice_get rows q ≡ Some r → P q r) → P (length rows) row → (q : ℕ) (r : A) → slice_get (rows ++ row ∷ []) q ≡ Some r → P q r
row_push P [] row each last zero r is = subst (P 0) (same_Some row r is) last
row_push P [] row each last (suc q) r is = absurd (none-some r is)
row_push P (x ∷ rows) row each last zero r is = each 0 r is
row_push P (x ∷ rows) row each last (suc q) r is = row_push (λ k. P (suc k)) rows row (λ k s e. each (suc k) s e) last q r is
