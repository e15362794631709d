-- Where a name stands among ordered names.
use Rattle.std.proofs.Common.{◌≡◌, ◌∙◌, ◌<◌, ◌+◌, ap, sym, refl, subst, ℕ, suc, zero, List, [], ◌∷◌, length, get_or, inl, inr, Some, None, Bool, true, false, cond, encode_utf8_all, arith}
use Rattle.std.specs.Prelude.{bytes_eq, slice_get}
use Rattle.std.specs.List.{Contains}
use Rattle.std.specs.Option.{option_map}
use Rattle.std.specs.Ordering.{nat_cmp, ordering_then, ordering_reverse, ordering_index, is_lt, is_eq, eq_by_cmp, on}
use Rattle.std.specs.Cmp.Lexicographic.{slice_cmp, bytes_decides}
use Rattle.std.specs.declared.cmp.Ordering.{Ordering}
use Rattle.std.specs.declared.cmp.Ordering.TheVariants.{Less, Equal, Greater}
use Rattle.std.specs.List.{HoldsAt, dedup}
use Rattle.std.specs.List.Sorted.{IsNonDecreasingBy, IsPartitionPoint, IsSorted, IsPermutation, IsStrictlySortedBy}
use Rattle.std.specs.Str.{chars, IsUtf8}
use Rattle.std.proofs.lemmas.Bool.{cases_lt}
use Rattle.std.proofs.lemmas.Bool.Decides.{nat_tests, same_from_decides}
use Rattle.std.proofs.lemmas.List.Sorted.{searchable_from_sorted, Contains-permutation, IsPermutation-sym}
use Rattle.std.proofs.lemmas.List.Kept.{IsStrictlySortedBy-dedup, Contains-dedup, Contains-from_dedup}
use Rattle.std.proofs.lemmas.Map.Keys.{Less-from_sorted}
use Rattle.std.proofs.lemmas.Str.{encodes-chars, encodes_same}
use Rattle.std.proofs.lemmas.Option.{none-some, same_Some, get_or_from_slice_get, slice_get_within, slice_get-get_or}
use Rattle.std.proofs.lemmas.Cmp.{tied_itself, nat_list_cmp_total, nat_list_eq_equiv, on_total, on_equiv}
use Rattle.xs_class.specs.Ordered.{IsBefore, IsOrdered, AreNamesOf, place_of}

-- a place at which the name stands, and before which it does not, is the one found
pub first_is_found : (ns : List (List ℕ)) (name : List ℕ) (k : ℕ) → slice_get ns k ≡ Some name → ((j : ℕ) → j < k → slice_get ns j ≡ Some name → ⊥) → place_of ns name ≡ Some k
first_is_found [] name k e h = absurd (none-some name e)
first_is_found (n ∷ ns) name zero e h =
    rw ((bytes_decides n name).1 (same_Some n name e)) refl
first_is_found (n ∷ ns) name (suc k) e h =
    let rest : place_of ns name ≡ Some k = first_is_found ns name k e (λ j l at. h (suc j) (omega arith) at) in
    by_test (bytes_eq n name) refl rest
  where
    by_test : (b : Bool) → bytes_eq n name ≡ b → place_of ns name ≡ Some k → cond b (Some 0) (option_map suc (place_of ns name)) ≡ Some (suc k)
    by_test true t rest = absurd (h 0 (omega arith) (ap Some ((bytes_decides n name).0 t)))
    by_test false t rest = ap (option_map suc) rest

-- a name that stands nowhere is not found
pub nowhere_is_none : (ns : List (List ℕ)) (name : List ℕ) → ((j : ℕ) → slice_get ns j ≡ Some name → ⊥) → place_of ns name ≡ None
nowhere_is_none [] name h = refl
nowhere_is_none (n ∷ ns) name h =
    let rest : place_of ns name ≡ None = nowhere_is_none ns name (λ j at. h (suc j) at) in
    by_test (bytes_eq n name) refl rest
  where
    by_test : (b : Bool) → bytes_eq n name ≡ b → place_of ns name ≡ None → cond b (Some 0) (option_map suc (place_of ns name)) ≡ None
    by_test true t rest = absurd (h 0 (ap Some ((bytes_decides n name).0 t)))
    by_test false t rest = ap (option_map suc) rest

pub IsBefore_not_itself : (n : List ℕ) → IsBefore n n → ⊥
IsBefore_not_itself n h =
    let same : slice_cmp nat_cmp (encode_utf8_all n) (encode_utf8_all n) ≡ Equal = tied_itself nat_list_cmp_total (encode_utf8_all n) in cc

-- in ordered names each name stands once
pub ordered_once : (ns : List (List ℕ)) (name : List ℕ) (j k : ℕ) → IsOrdered ns → slice_get ns k ≡ Some name → j < k → slice_get ns j ≡ Some name → ⊥
ordered_once ns name j k up at l before =
    let one : get_or ns j [] ≡ name = get_or_from_slice_get ns j name [] before in
    let two : get_or ns k [] ≡ name = get_or_from_slice_get ns k name [] at in
    let off : IsBefore (get_or ns j []) (get_or ns k []) = up j k [] l (slice_get_within ns k name at) in
    IsBefore_not_itself name (subst (λ n. IsBefore n name) one (subst (λ n. IsBefore (get_or ns j []) n) two off))

pub ordered_is_found : (ns : List (List ℕ)) (name : List ℕ) (k : ℕ) → IsOrdered ns → slice_get ns k ≡ Some name → place_of ns name ≡ Some k
ordered_is_found ns name k up at = first_is_found ns name k at (λ j l before. ordered_once ns name j k up at l before)

both_equal : (o r : Ordering) → ordering_then o r ≡ Equal → (o ≡ Equal) × (r ≡ Equal)
both_equal Less r h = cc
both_equal Equal r h = (refl, h)
both_equal Greater r h = cc

nat_equal : (x y : ℕ) → nat_cmp x y ≡ Equal → x ≡ y
nat_equal x y h = grind (arith, nat_tests)

pub equal_bytes : (xs ys : List ℕ) → slice_cmp nat_cmp xs ys ≡ Equal → xs ≡ ys
equal_bytes [] [] h = refl
equal_bytes [] (y ∷ ys) h = cc
equal_bytes (x ∷ xs) [] h = cc
equal_bytes (x ∷ xs) (y ∷ ys) h =
    let both = both_equal (nat_cmp x y) (slice_cmp nat_cmp xs ys) h in
    let first : x ≡ y = nat_equal x y both.0 in
    let rest : xs ≡ ys = equal_bytes xs ys both.1 in cc

pub not_lower : (a b : Ordering) → a ≡ Less → b ≡ ordering_reverse a → is_lt b ≡ false
not_lower a b less back = ap is_lt (back ∙ ap ordering_reverse less)

-- ordered names can be searched by a name's bytes
pub ordered_are_searchable : (ns : List (List ℕ)) (bytes : List ℕ) → IsOrdered ns → IsNonDecreasingBy (λ n. ordering_index (slice_cmp nat_cmp (encode_utf8_all n) bytes)) ns
ordered_are_searchable ns bytes up =
    searchable_from_sorted nat_list_cmp_total encode_utf8_all ns bytes (λ k d low high.
    let one : List ℕ = encode_utf8_all (get_or ns k d) in
    let next : List ℕ = encode_utf8_all (get_or ns (k + 1) d) in
    not_lower (slice_cmp nat_cmp one next) (slice_cmp nat_cmp next one) (up k (k + 1) d (omega arith) high) (nat_list_cmp_total.antisymm next one))

-- what a search for a name's bytes found
pub search_found : (ns : List (List ℕ)) (name : List ℕ) (k : ℕ) → IsUtf8 name → IsOrdered ns → k < length ns → HoldsAt (λ n. slice_cmp nat_cmp (encode_utf8_all n) name ≡ Equal) ns k → slice_get ns k ≡ Some (chars name)
search_found ns name k text up within at =
    let bytes : encode_utf8_all (get_or ns k []) ≡ name = equal_bytes _ _ (at []) in
    let same : get_or ns k [] ≡ chars name = encodes_same _ _ (bytes ∙ sym (encodes-chars name text)) in
    slice_get-get_or ns k [] within ∙ ap Some same

-- where a search for a name's bytes found nothing, the name stands nowhere
pub search_missed : (ns : List (List ℕ)) (name : List ℕ) (i : ℕ) → IsUtf8 name → IsPartitionPoint (λ n. slice_cmp nat_cmp (encode_utf8_all n) name ≡ Less) (λ n. slice_cmp nat_cmp (encode_utf8_all n) name ≡ Greater) ns i → (j : ℕ) → slice_get ns j ≡ Some (chars name) → ⊥
search_missed ns name i text parts j at =
    let within : j < length ns = slice_get_within ns j (chars name) at in
    let here : encode_utf8_all (get_or ns j []) ≡ name = ap encode_utf8_all (get_or_from_slice_get ns j (chars name) [] at) ∙ encodes-chars name text in
    let equal : slice_cmp nat_cmp (encode_utf8_all (get_or ns j [])) name ≡ Equal = subst (λ b. slice_cmp nat_cmp b name ≡ Equal) (sym here) (tied_itself nat_list_cmp_total name) in
    elim (cases_lt j i) [
      | inl before ↦ let less : slice_cmp nat_cmp (encode_utf8_all (get_or ns j [])) name ≡ Less = parts.0 j [] (omega arith) before in cc
      | inr after ↦ let greater : slice_cmp nat_cmp (encode_utf8_all (get_or ns j [])) name ≡ Greater = parts.1 j [] after within in cc
    ]

pub nowhere_is_absent : (ns : List (List ℕ)) (name : List ℕ) → ((j : ℕ) → slice_get ns j ≡ Some name → ⊥) → Contains ns name → ⊥
nowhere_is_absent ns name h has = h has.0 (slice_get-get_or ns has.0 name has.1 ∙ ap Some has.2)

-- names are compared by their bytes
abbrev pub by_bytes : List ℕ → List ℕ → Ordering
by_bytes = on encode_utf8_all (slice_cmp nat_cmp)

abbrev pub same_bytes : List ℕ → List ℕ → Bool
same_bytes = on encode_utf8_all bytes_eq

is_eq_tells : (o : Ordering) → is_eq o ≡ true → o ≡ Equal
is_eq_tells Less t = cc
is_eq_tells Equal t = refl
is_eq_tells Greater t = cc

equal_itself : (x y : List ℕ) → x ≡ y → slice_cmp nat_cmp x y ≡ Equal
equal_itself x y same = subst (λ b. slice_cmp nat_cmp x b ≡ Equal) same (tied_itself nat_list_cmp_total x)

bytes_tie : (x y : List ℕ) → same_bytes x y ≡ eq_by_cmp by_bytes x y
bytes_tie x y =
    let one : List ℕ = encode_utf8_all x in
    let other : List ℕ = encode_utf8_all y in
    same_from_decides {P = one ≡ other} (bytes_eq one other) (is_eq (slice_cmp nat_cmp one other)) (bytes_decides one other) (
      λ t. equal_bytes one other (is_eq_tells (slice_cmp nat_cmp one other) t),
      λ same. ap is_eq (equal_itself one other same),
    )

same_bytes_same : (x y : List ℕ) → same_bytes x y ≡ true → x ≡ y
same_bytes_same x y t = encodes_same x y ((bytes_decides (encode_utf8_all x) (encode_utf8_all y)).0 t)

-- the names of a list, sorted and without repeats
pub names_of_sorted : (list sorted names : List (List ℕ)) → IsPermutation list sorted → IsSorted by_bytes sorted → names ≡ dedup same_bytes sorted → AreNamesOf list names
names_of_sorted list sorted names moved up is =
    let strict : IsStrictlySortedBy by_bytes (dedup same_bytes sorted) = IsStrictlySortedBy-dedup (on_total encode_utf8_all nat_list_cmp_total) bytes_tie sorted up in
    rw is (record {
      ordered = λ i j d before within. Less-from_sorted by_bytes (dedup same_bytes sorted) i j d strict before within;
      same = λ name. (
        λ h. Contains-permutation sorted list name (IsPermutation-sym list sorted moved) (Contains-from_dedup same_bytes sorted name h),
        λ h. Contains-dedup (on_equiv encode_utf8_all nat_list_eq_equiv) same_bytes_same sorted name (Contains-permutation list sorted name moved h),
      );
    })
