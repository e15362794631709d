-- First places of names in lists.
use Rattle.std.proofs.Common.{◌≡◌, ◌⊎◌, ◌∙◌, ◌<◌, ◌≤◌, ◌+◌, inl, inr, ap, sym, refl, subst, ℕ, suc, zero, List, [], ◌∷◌, ◌++◌, length, take, drop, get_or, Some, None, Bool, true, false, cond, arith, slice_get}
use Rattle.std.specs.Prelude.{bytes_eq, IsTrue, ◌↔◌}
use Rattle.std.specs.Option.{option_map}
use Rattle.std.specs.declared.option.Option.{Option}
use Rattle.std.specs.Cmp.Lexicographic.{bytes_decides}
use Rattle.std.specs.Str.{chars}
use Rattle.std.proofs.lemmas.Bool.{cases_lt}
use Rattle.std.proofs.lemmas.Option.{none-some, same_Some, slice_get_within, slice_get_read}
use Rattle.xs_class.specs.Ordered.{place_of}
use Rattle.xs_class.proofs.Places.{nowhere_is_none}
use Rattle.xs_class.proofs.Lists.{get_left, get_last, get_taken}
use Rattle.xs_gram.proofs.Building.{drop_next}
use Rattle.xs_pair.specs.Units.{with_name, with_names}
use Rattle.xs_pair.specs.Directories.{IsDistinct}
use Rattle.xs_pair.specs.Rules.{IsAbsent, IsAmong, HasRepeat}

-- a name that is found stands there
pub found_there : (ns : List (List ℕ)) (name : List ℕ) (k : ℕ) → place_of ns name ≡ Some k → slice_get ns k ≡ Some name
found_there [] name k e = absurd (none-some k e)
found_there (n ∷ ns) name k e = by_test (bytes_eq n name) refl (place_of ns name) refl k e (λ j is. found_there ns name j is)
  where
    by_test : (b : Bool) → bytes_eq n name ≡ b → (o : Option ℕ) → place_of ns name ≡ o → (k : ℕ) → cond b (Some 0) (option_map suc o) ≡ Some k → ((j : ℕ) → place_of ns name ≡ Some j → slice_get ns j ≡ Some name) → slice_get (n ∷ ns) k ≡ Some name
    by_test true t o is k e rest = subst (λ m. slice_get (n ∷ ns) m ≡ Some name) (same_Some 0 k e) (ap Some ((bytes_decides n name).0 t))
    by_test false t None is k e rest = absurd (none-some k e)
    by_test false t (Some j) is k e rest = subst (λ m. slice_get (n ∷ ns) m ≡ Some name) (same_Some (suc j) k e) (rest j is)

-- a name that stands somewhere has its first place there or before
pub first_before : (ns : List (List ℕ)) (name : List ℕ) (j : ℕ) → slice_get ns j ≡ Some name → (k : ℕ) × (k ≤ j) × (place_of ns name ≡ Some k)
first_before [] name j at = absurd (none-some name at)
first_before (n ∷ ns) name zero at = (0, omega arith, ap (λ b. cond b (Some 0) (option_map suc (place_of ns name))) ((bytes_decides n name).1 (same_Some n name at)))
first_before (n ∷ ns) name (suc j) at =
    let (k, le, is) = first_before ns name j at in by_test (bytes_eq n name) refl k le is
  where
    by_test : (b : Bool) → bytes_eq n name ≡ b → (k : ℕ) → k ≤ j → place_of ns name ≡ Some k → (m : ℕ) × (m ≤ suc j) × (cond b (Some 0) (option_map suc (place_of ns name)) ≡ Some m)
    by_test true t k le is = (0, omega arith, refl)
    by_test false t k le is = (suc k, omega arith, ap (option_map suc) is)

-- what a name that is absent is not, and the other way round
pub stands_nowhere : (ns : List (List ℕ)) (name : List ℕ) (j : ℕ) → IsAbsent ns name → slice_get ns j ≡ Some name → ⊥
stands_nowhere ns name j none at = let (k, le, is) = first_before ns name j at in none-some k (sym none ∙ is)

pub among_or_absent : (ns : List (List ℕ)) (name : List ℕ) → IsAmong ns name ⊎ IsAbsent ns name
among_or_absent ns name = by_case (place_of ns name) refl
  where
    by_case : (o : Option ℕ) → place_of ns name ≡ o → IsAmong ns name ⊎ IsAbsent ns name
    by_case None e = inr e
    by_case (Some k) e = inl (k, e)

pub among_if : (ns : List (List ℕ)) (name : List ℕ) → (IsAbsent ns name → ⊥) → IsAmong ns name
among_if ns name not = by_case (among_or_absent ns name)
  where
    by_case : IsAmong ns name ⊎ IsAbsent ns name → IsAmong ns name
    by_case (inl h) = h
    by_case (inr h) = absurd (not h)

pub not_both : (ns : List (List ℕ)) (name : List ℕ) → IsAmong ns name → IsAbsent ns name → ⊥
not_both ns name (k, is) none = none-some k (sym none ∙ is)

-- a list with one more element
pub get_snoc : {A : Type 0} (xs : List A) (x : A) (j : ℕ) (y : A) → slice_get (xs ++ x ∷ []) j ≡ Some y → (slice_get xs j ≡ Some y) ⊎ ((j ≡ length xs) × (x ≡ y))
get_snoc [] x zero y at = inr (refl, same_Some x y at)
get_snoc [] x (suc j) y at = absurd (none-some y at)
get_snoc (z ∷ xs) x zero y at = inl at
get_snoc (z ∷ xs) x (suc j) y at = by_case (get_snoc xs x j y at)
  where
    by_case : (slice_get xs j ≡ Some y) ⊎ ((j ≡ length xs) × (x ≡ y)) → (slice_get xs j ≡ Some y) ⊎ ((suc j ≡ length (z ∷ xs)) × (x ≡ y))
    by_case (inl h) = inl h
    by_case (inr h) = inr (ap suc h.0, h.1)

pub get_take : {A : Type 0} (xs : List A) (i j : ℕ) (y : A) → slice_get (take i xs) j ≡ Some y → (j < i) × (slice_get xs j ≡ Some y)
get_take xs zero j y at = absurd (none-some y at)
get_take [] (suc i) j y at = absurd (none-some y at)
get_take (x ∷ xs) (suc i) zero y at = (omega arith, at)
get_take (x ∷ xs) (suc i) (suc j) y at = let h = get_take xs i j y at in (omega (arith, h.0), h.1)

pub absent_snoc : (ns : List (List ℕ)) (n name : List ℕ) → IsAbsent ns name → (n ≡ name → ⊥) → IsAbsent (ns ++ n ∷ []) name
absent_snoc ns n name none other = nowhere_is_none (ns ++ n ∷ []) name (λ j at. by_case j (get_snoc ns n j name at))
  where
    by_case : (j : ℕ) → (slice_get ns j ≡ Some name) ⊎ ((j ≡ length ns) × (n ≡ name)) → ⊥
    by_case j (inl h) = stands_nowhere ns name j none h
    by_case j (inr h) = other h.1

pub absent_front : (ns : List (List ℕ)) (n name : List ℕ) → IsAbsent (ns ++ n ∷ []) name → IsAbsent ns name × (n ≡ name → ⊥)
absent_front ns n name none = (
  nowhere_is_none ns name (λ j at. stands_nowhere (ns ++ n ∷ []) name j none (get_left ns (n ∷ []) j name at)),
  λ same. stands_nowhere (ns ++ n ∷ []) name (length ns) none (get_last ns n ∙ ap Some same),
)

-- the lists have the same names
pub record HaveSame (names list : List (List ℕ)) : Type 0 where
  pub forth : (name : List ℕ) → IsAbsent names name → IsAbsent list name
  pub back : (name : List ℕ) → IsAbsent list name → IsAbsent names name

pub same_none : HaveSame [] []
same_none = record { forth = λ name h. h; back = λ name h. h }

pub same_more : (names list : List (List ℕ)) (n : List ℕ) → HaveSame names list → HaveSame (names ++ n ∷ []) (list ++ n ∷ [])
same_more names list n same = record {
  forth = λ name none. let h = absent_front names n name none in absent_snoc list n name (same.forth name h.0) h.1;
  back = λ name none. let h = absent_front list n name none in absent_snoc names n name (same.back name h.0) h.1;
}

pub same_again : (names list : List (List ℕ)) (n : List ℕ) → IsAmong names n → HaveSame names list → HaveSame names (list ++ n ∷ [])
same_again names list n among same = record {
  forth = λ name none. absent_snoc list n name (same.forth name none) (λ is. not_both names name (subst (λ m. IsAmong names m) is among) none);
  back = λ name none. same.back name (absent_front list n name none).0;
}

-- a name that first stands at a place stands nowhere before it
pub absent_before : (list : List (List ℕ)) (i : ℕ) (name : List ℕ) → place_of list name ≡ Some i → IsAbsent (take i list) name
absent_before list i name is = nowhere_is_none (take i list) name (λ j at. far j (get_take list i j name at))
  where
    far : (j : ℕ) → (j < i) × (slice_get list j ≡ Some name) → ⊥
    far j h = let (k, le, found) = first_before list name j h.1 in
        let same : k ≡ i = same_Some k i (sym found ∙ is) in
        let low : j < i = h.0 in omega arith

-- a name whose first place is another stands before
pub among_before : (list : List (List ℕ)) (i : ℕ) (name : List ℕ) → slice_get list i ≡ Some name → (place_of list name ≡ Some i → ⊥) → IsAmong (take i list) name
among_before list i name at other =
    let (k, le, found) = first_before list name i at in
    let apart : k ≡ i → ⊥ = λ e. other (found ∙ ap Some e) in
    let low : k < i = omega arith in
    by_case k (among_or_absent (take i list) name) (get_taken list i k name low (found_there list name k found))
  where
    by_case : (k : ℕ) → IsAmong (take i list) name ⊎ IsAbsent (take i list) name → slice_get (take i list) k ≡ Some name → IsAmong (take i list) name
    by_case k (inl h) at = h
    by_case k (inr h) at = absurd (stands_nowhere (take i list) name k h at)

-- the same two facts for a name among that many at the front
pub within_take : (list : List (List ℕ)) (i k : ℕ) (name : List ℕ) → place_of list name ≡ Some k → k < i → IsAmong (take i list) name
within_take list i k name found lt = by_case (among_or_absent (take i list) name)
  where
    by_case : IsAmong (take i list) name ⊎ IsAbsent (take i list) name → IsAmong (take i list) name
    by_case (inl h) = h
    by_case (inr h) = absurd (stands_nowhere (take i list) name k h (get_taken list i k name lt (found_there list name k found)))

pub take_within : (list : List (List ℕ)) (i : ℕ) (name : List ℕ) → IsAmong (take i list) name → (k : ℕ) × (place_of list name ≡ Some k) × (k < i)
take_within list i name (j, is) =
    let h = get_take list i j name (found_there (take i list) name j is) in
    let (k, le, found) = first_before list name j h.1 in
    let low : j < i = h.0 in
    (k, found, omega arith)

-- a name that does not first stand where it stands, stands twice
pub repeat_at : (list : List (List ℕ)) (i : ℕ) (name : List ℕ) → slice_get list i ≡ Some name → (place_of list name ≡ Some i → ⊥) → HasRepeat list
repeat_at list i name at other =
    let (k, le, found) = first_before list name i at in
    let apart : k ≡ i → ⊥ = λ e. other (found ∙ ap Some e) in
    record { name = name; j = k; k = i; before = omega arith; first_at = found_there list name k found; again_at = at }

with_is : (names : List (List ℕ)) (n : List ℕ) (o : Option ℕ) → place_of names n ≡ o → with_name names n ≡ elim o [ None ↦ names ++ n ∷ [] | Some k ↦ names ]
with_is names n o is = ap (λ (p : Option ℕ). elim p [ None ↦ names ++ n ∷ [] | Some k ↦ names ]) is

with_new : (names : List (List ℕ)) (n : List ℕ) → place_of names n ≡ None → with_name names n ≡ names ++ n ∷ []
with_new names n is = with_is names n None is

with_old : (names : List (List ℕ)) (n : List ℕ) (k : ℕ) → place_of names n ≡ Some k → with_name names n ≡ names
with_old names n k is = with_is names n (Some k) is

next_first : (names list : List (List ℕ)) (i : ℕ) (n : List ℕ) → i < length list → n ≡ get_or list i n → with_names names (drop i list) ≡ with_names (with_name names n) (drop (i + 1) list)
next_first names list i n lt at =
    let rest : drop i list ≡ n ∷ drop (i + 1) list = drop_next list i n lt at in
    ap (λ (l : List (List ℕ)). with_names names l) rest

-- one more name of a list that stands there first, and one that does not
pub first_step : (names list : List (List ℕ)) (i : ℕ) (n : List ℕ) (all : List (List ℕ)) → i < length list → n ≡ get_or list i n → place_of list n ≡ Some i → HaveSame names (take i list) → with_names names (drop i list) ≡ all → with_names (names ++ n ∷ []) (drop (i + 1) list) ≡ all
first_step names list i n all lt at first same whole =
    let new : with_name names n ≡ names ++ n ∷ [] = with_new names n (same.back n (absent_before list i n first)) in
    ap (λ m. with_names m (drop (i + 1) list)) (sym new) ∙ sym (next_first names list i n lt at) ∙ whole

pub again_step : (names list : List (List ℕ)) (i : ℕ) (n : List ℕ) (all : List (List ℕ)) → i < length list → n ≡ get_or list i n → IsAmong names n → with_names names (drop i list) ≡ all → with_names names (drop (i + 1) list) ≡ all
again_step names list i n all lt at among whole =
    ap (λ m. with_names m (drop (i + 1) list)) (sym (with_old names n among.0 among.1)) ∙ sym (next_first names list i n lt at) ∙ whole

pub among_same : (names list : List (List ℕ)) (n : List ℕ) → HaveSame names list → IsAmong list n → IsAmong names n
among_same names list n same among = by_case (among_or_absent names n)
  where
    by_case : IsAmong names n ⊎ IsAbsent names n → IsAmong names n
    by_case (inl h) = h
    by_case (inr h) = absurd (not_both list n among (same.forth n h))

-- beside each name stands its first place among those from place m on
abbrev pub HasPlacesFrom : List (List ℕ) → List (List ℕ) → ℕ → List ℕ → Type 0
HasPlacesFrom list names m places = (k : ℕ) (name : List ℕ) (j : ℕ) → slice_get names k ≡ Some name → place_of (drop m list) name ≡ Some j → get_or places k 0 ≡ m + j

-- what a test that decides says
pub when_true : {P : Type 0} (b : Bool) → (IsTrue b ↔ P) → b ≡ true → P
when_true b both e = both.0 e

pub when_false : {P : Type 0} (b : Bool) → (IsTrue b ↔ P) → b ≡ false → P → ⊥
when_false b both e p = let t : b ≡ true = both.1 p in cc

pub get_at : {A : Type 0} (xs : List A) (i : ℕ) (x : A) → i < length xs → x ≡ get_or xs i x → slice_get xs i ≡ Some x
get_at xs i x lt at = slice_get_read xs (length xs) i x refl lt at

-- names up to a place that stand at their first places, and one more
pub distinct_more : (list : List (List ℕ)) (i : ℕ) (n : List ℕ) → slice_get list i ≡ Some n → place_of list n ≡ Some i → ((k : ℕ) (name : List ℕ) → k < i → slice_get list k ≡ Some name → place_of list name ≡ Some k) → (k : ℕ) (name : List ℕ) → k < i + 1 → slice_get list k ≡ Some name → place_of list name ≡ Some k
distinct_more list i n here first before k name lt at = by_case (cases_lt k i)
  where
    by_case : (k < i) ⊎ (i ≤ k) → place_of list name ≡ Some k
    by_case (inl low) = before k name low at
    by_case (inr high) =
        let same : i ≡ k = omega arith in
        let is : n ≡ name = same_Some n name (sym here ∙ subst (λ m. slice_get list m ≡ Some name) (sym same) at) in
        subst (λ m. place_of list name ≡ Some m) same (subst (λ m. place_of list m ≡ Some i) is first)

pub distinct_all : (list : List (List ℕ)) (i : ℕ) → length list ≤ i → ((k : ℕ) (name : List ℕ) → k < i → slice_get list k ≡ Some name → place_of list name ≡ Some k) → IsDistinct list
distinct_all list i le all k name at = let lt = slice_get_within list k name at in all k name (omega arith) at

-- what holds of a list and a name that are the same
pub told : (list self : List (List ℕ)) (said : List ℕ) (n : List ℕ) (i : ℕ) → list ≡ self → chars said ≡ n → place_of self (chars said) ≡ Some i → place_of list n ≡ Some i
told list self said n i whole read is = subst (λ l. place_of l n ≡ Some i) (sym whole) (subst (λ m. place_of self m ≡ Some i) read is)

pub told_not : (list self : List (List ℕ)) (said : List ℕ) (n : List ℕ) (i : ℕ) → list ≡ self → chars said ≡ n → (place_of self (chars said) ≡ Some i → ⊥) → place_of list n ≡ Some i → ⊥
told_not list self said n i whole read not is = not (subst (λ l. place_of l (chars said) ≡ Some i) whole (subst (λ m. place_of list m ≡ Some i) (sym read) is))
