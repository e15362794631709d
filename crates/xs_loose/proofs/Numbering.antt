-- The numbers of groups, from a place to the next one.
use Rattle.std.proofs.Common.{◌≡◌, ℕ, zero, suc, ◌+◌, ◌<◌, ◌≤◌, Bool, true, false, List, [], ◌∷◌, ◌++◌, length, take, drop, get_or, slice_get, refl, sym, ap, subst, ◌∙◌, inl, inr, arith, Some}
use Rattle.std.proofs.lemmas.Bool.{cases_eq}
use Rattle.std.proofs.lemmas.List.{take_more, take-append-drop}
use Rattle.std.proofs.lemmas.Option.{slice_get-get_or, same_Some}
use Rattle.xs_gram.specs.declared.parts.GItem.{GItem}
use Rattle.xs_gram.specs.declared.parts.GItem.TheVariants.{Fixed, Non}
use Rattle.xs_gram.specs.Grammar.{Grammar}
use Rattle.xs_gram.specs.Fences.{spread, IsPartner, IsLeftFence}
use Rattle.xs_gram.specs.Spreading.{opens}
use Rattle.xs_gram.proofs.Fences.{is_left_of}
use Rattle.xs_gram.proofs.Partners.{opens_item}
use Rattle.xs_loose.specs.Groups.{lefts, groups_before, groups_count}

-- one more where the test holds
abbrev pub one_if : Bool → ℕ → ℕ
one_if b n = elim b [
  | true ↦ suc n
  | false ↦ n
]

if_sum : (b : Bool) (n : ℕ) → one_if b n ≡ one_if b 0 + n
if_sum true n = omega arith
if_sum false n = omega arith

-- 1 where the item is a left fence
abbrev pub left_one : List (ℕ × ℕ) → GItem → ℕ
left_one fs i = lefts fs (i ∷ [])

lefts_first : (fs : List (ℕ × ℕ)) (i : GItem) (is : List GItem) → lefts fs (i ∷ is) ≡ left_one fs i + lefts fs is
lefts_first fs i is = if_sum (opens fs i) (lefts fs is)

pub lefts_append : (fs : List (ℕ × ℕ)) (xs ys : List GItem) → lefts fs (xs ++ ys) ≡ lefts fs xs + lefts fs ys
lefts_append fs [] ys = omega arith
lefts_append fs (i ∷ xs) ys = omega (arith, lefts_first fs i (xs ++ ys), lefts_first fs i xs, lefts_append fs xs ys)

pub lefts_next : (fs : List (ℕ × ℕ)) (xs : List GItem) (k : ℕ) (i : GItem) → k < length xs → slice_get xs k ≡ Some i → lefts fs (take (k + 1) xs) ≡ lefts fs (take k xs) + left_one fs i
lefts_next fs xs k i low e =
    let is : get_or xs k i ≡ i = same_Some _ _ (sym (slice_get-get_or xs k i low) ∙ e) in
    ap (λ (ys : List GItem). lefts fs ys) (take_more xs k i low) ∙ lefts_append fs (take k xs) (get_or xs k i ∷ []) ∙ ap (λ (j : GItem). lefts fs (take k xs) + left_one fs j) is

left_is_one : (fs : List (ℕ × ℕ)) (i : GItem) → opens fs i ≡ true → left_one fs i ≡ 1
left_is_one fs i e = ap (λ (b : Bool). one_if b 0) e

other_is_none : (fs : List (ℕ × ℕ)) (i : GItem) → opens fs i ≡ false → left_one fs i ≡ 0
other_is_none fs i e = ap (λ (b : Bool). one_if b 0) e

pub item_at : (before after : List GItem) (i : GItem) → slice_get (before ++ i ∷ after) (length before) ≡ Some i
item_at [] after i = refl
item_at (x ∷ before) after i = item_at before after i

pub long_before : (before after : List GItem) (i : GItem) → length before < length (before ++ i ∷ after)
long_before [] after i = omega arith
long_before (x ∷ before) after i = omega (arith, long_before before after i)

pub left_counts : (fs : List (ℕ × ℕ)) (xs : List GItem) (k m : ℕ) → IsPartner fs xs k m → lefts fs (take (k + 1) xs) ≡ lefts fs (take k xs) + 1
left_counts fs xs k m p =
    let a = p.group in
    let rest = p.inside ++ Fixed (p.right ∷ []) ∷ a.after in
    let first = Fixed (p.left ∷ []) in
    let low : k < length xs = subst (λ (ys : List GItem). k < length ys) (sym a.split) (omega (arith, long_before a.before rest first, a.place)) in
    let at : slice_get xs k ≡ Some first = ap (λ (ys : List GItem). slice_get ys k) a.split ∙ ap (λ (n : ℕ). slice_get (a.before ++ first ∷ rest) n) a.place ∙ item_at a.before rest first in
    lefts_next fs xs k first low at ∙ ap (λ (n : ℕ). lefts fs (take k xs) + n) (left_is_one fs first (is_left_of a.fence))

-- the item that stands where no left fence does
pub other_at : (fs : List (ℕ × ℕ)) (xs : List GItem) (k : ℕ) → k < length xs → (IsLeftFence fs xs k → ⊥) → (i : GItem) × (slice_get xs k ≡ Some i) × (opens fs i ≡ false)
other_at fs xs k low other = (i, at, by_case (opens fs i) refl)
  where
    i : GItem
    i = get_or xs k (Non 0 0)

    at : slice_get xs k ≡ Some i
    at = slice_get-get_or xs k (Non 0 0) low

    by_case : (b : Bool) → opens fs i ≡ b → opens fs i ≡ false
    by_case true e = let l = opens_item fs i e in absurd (other (record { symbol = l.0; item = at ∙ ap (λ (x : GItem). Some x) l.1; left = l.2 }))
    by_case false e = e

pub other_counts : (fs : List (ℕ × ℕ)) (xs : List GItem) (k : ℕ) → k < length xs → (IsLeftFence fs xs k → ⊥) → lefts fs (take (k + 1) xs) ≡ lefts fs (take k xs)
other_counts fs xs k low other =
    let found = other_at fs xs k low other in
    omega (arith, lefts_next fs xs k found.0 low found.1, other_is_none fs found.0 found.2)

-- the numbers of a rule's groups are below that of all groups
lefts_take : (fs : List (ℕ × ℕ)) (xs : List GItem) (k : ℕ) → lefts fs (take k xs) ≤ lefts fs xs
lefts_take fs xs k = omega (arith, lefts_append fs (take k xs) (drop k xs), ap (λ (ys : List GItem). lefts fs ys) (take-append-drop k xs))

pub before_rises : (g : Grammar) (p q : ℕ) → p ≤ q → groups_before g p ≤ groups_before g q
before_rises g p zero le = let e : p ≡ 0 = omega arith in rw e (omega arith)
before_rises g p (suc q) le = elim (cases_eq p (suc q)) [
  | inl e ↦ rw e (omega arith)
  | inr ne ↦ omega (arith, before_rises g p q (omega arith))
]

pub number_low : (g : Grammar) (p k : ℕ) → p < length g.rules → groups_before g p + lefts g.fences (take k (spread g p)) ≤ groups_count g
number_low g p k low = omega (arith, before_rises g (suc p) (length g.rules) low, lefts_take g.fences (spread g p) k)
