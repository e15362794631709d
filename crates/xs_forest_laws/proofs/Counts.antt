-- Counts row by row, and the choice of an alternative by a number.
use Rattle.std.proofs.Common.{◌≡◌, ℕ, zero, suc, ◌+◌, ◌*◌, ◌<◌, ◌≤◌, List, [], ◌∷◌, ◌++◌, length, min, Option, Some, None, refl, sym, ap, ◌∙◌, arith, subst, inl, inr, ◌⊎◌}
use Rattle.std.proofs.Math.Nat.{suc-mul}
use Rattle.std.proofs.lemmas.Bool.{cases_lt}
use Rattle.std.specs.Prelude.{slice_index_or, Contains}
use Rattle.xs_gram.specs.Grammar.{Grammar}
use Rattle.xs_forest.specs.declared.row.Alt.{Alt}
use Rattle.xs_forest_laws.specs.Forest.{Forest, alts_of, Unfolding, bare, pick, IsRight}
use Rattle.xs_forest_laws.specs.Number.{count_of, alts_count, alts_sum, IsCounted, At, AreCounts, IsChosen}
use Rattle.xs_forest_laws.proofs.Number.{alt_one}
use Rattle.xs_class.proofs.Lists.{first_in, rest_in, one_longer, one_cell}

-- counted with the cap at each step, or at the end
pub alts_count-is : (cap : ℕ) (cs : List ℕ) (alts : List Alt) → alts_count cap cs alts ≡ min cap (alts_sum cap cs alts)
alts_count-is cap cs [] = omega arith
alts_count-is cap cs (a ∷ alts) = let ih = alts_count-is cap cs alts in omega arith

count_more : (cs more : List ℕ) (o : Option ℕ) → ((c : ℕ) → o ≡ Some c → c < length cs) → count_of (cs ++ more) o ≡ count_of cs o
count_more cs more None h = refl
count_more cs more (Some r) h = at_front cs more r 0 (h r refl)
  where
    at_front : (xs ys : List ℕ) (r d : ℕ) → r < length xs → slice_index_or (xs ++ ys) r d ≡ slice_index_or xs r d
    at_front [] ys r d h = absurd (omega arith)
    at_front (x ∷ xs) ys zero d h = refl
    at_front (x ∷ xs) ys (suc r) d h = at_front xs ys r d (omega arith)

-- more counts after those of the children change nothing
pub alts_more : (cap : ℕ) (cs more : List ℕ) (alts : List Alt) → ((a : Alt) (c : ℕ) → Contains alts a → (a.left ≡ Some c) ⊎ (a.right ≡ Some c) → c < length cs) → alts_count cap (cs ++ more) alts ≡ alts_count cap cs alts
alts_more cap cs more [] h = refl
alts_more cap cs more (a ∷ alts) h =
    let l = count_more cs more a.left (λ c e. h a c (first_in a alts) (inl e)) in
    let r = count_more cs more a.right (λ c e. h a c (first_in a alts) (inr e)) in
    let ih = alts_more cap cs more alts (λ b c i e. h b c (rest_in a alts b i) e) in
    rw (l, r, ih) refl

at_last : (xs : List ℕ) (y d : ℕ) → slice_index_or (xs ++ y ∷ []) (length xs) d ≡ y
at_last [] y d = refl
at_last (x ∷ xs) y d = at_last xs y d

pub none_counted : (f : Forest) (cap : ℕ) → AreCounts f cap []
none_counted f cap = (omega arith, λ r lt. absurd (omega arith))

module _ (g : Grammar) (w : List ℕ) (f : Forest) (right : IsRight g w f) (cap : ℕ) (cs : List ℕ) (counts : AreCounts f cap cs) where
  same_alts : (more : List ℕ) (r : ℕ) → r ≤ length cs → r < length f → alts_count cap (cs ++ more) (alts_of f r) ≡ alts_count cap cs (alts_of f r)
  same_alts more r le lt = alts_more cap cs more (alts_of f r) (λ a c there e. let b = right.below r c a lt there e in omega arith)

  -- the count of one more row
  pub next_counted : length cs < length f → AreCounts f cap (cs ++ alts_count cap cs (alts_of f (length cs)) ∷ [])
  next_counted less = (longer, each)
    where
      count : ℕ
      count = alts_count cap cs (alts_of f (length cs))

      longer : length (cs ++ count ∷ []) ≤ length f
      longer = let e = one_longer cs count in omega arith

      each : (r : ℕ) → r < length (cs ++ count ∷ []) → slice_index_or (cs ++ count ∷ []) r zero ≡ alts_count cap (cs ++ count ∷ []) (alts_of f r)
      each r lt = elim (cases_lt r (length cs)) [
        | inl old ↦ count_more cs (count ∷ []) (Some r) (λ c e. same_lt c e old) ∙ (counts.1 r old ∙ sym (same_alts (count ∷ []) r (omega arith) (omega arith)))
        | inr new ↦
            let e = one_longer cs count in
            let is : length cs ≡ r = omega arith in
            subst (λ z. slice_index_or (cs ++ count ∷ []) z zero ≡ alts_count cap (cs ++ count ∷ []) (alts_of f z)) is (at_last cs count zero ∙ sym (same_alts (count ∷ []) (length cs) (omega arith) less))
      ]
        where
          same_lt : (c : ℕ) → Some r ≡ Some c → r < length cs → c < length cs
          same_lt c e h = let s : r ≡ c = cc in omega arith

  pub all_counted : length cs ≡ length f → IsCounted f cap cs
  all_counted e r lt = counts.1 r (omega arith)

factor_lt : (x c d : ℕ) → x * d < c * d → x < c
factor_lt x zero d h = let e : zero * d ≡ 0 = omega arith in absurd (omega arith)
factor_lt zero (suc c) d h = omega arith
factor_lt (suc x) (suc c) d h = let e = suc-mul x d in let e' = suc-mul c d in omega (arith, factor_lt x c d (omega arith))

-- the left child has the number
pub left_within : (cap : ℕ) (cs : List ℕ) (alts : List Alt) (k n x y : ℕ) (a : Alt) → IsChosen cap cs alts k n x y a → x < count_of cs a.left
left_within cap cs alts k n x y a h = let b = h.both in factor_lt x (count_of cs a.left) (count_of cs a.right) (omega arith)

module _ (f : Forest) (cap : ℕ) (cs : List ℕ) (r k n x y : ℕ) (a : Alt) (h : IsChosen cap cs (alts_of f r) k n x y a) where
  -- the unfolding with the number is of the alternative chosen, by the children's unfoldings with their numbers
  pub chosen_at : (u : Unfolding) → At f cap cs (Some r) k u → (l : Unfolding) × (t : Unfolding) × (u ≡ pick a l t) × At f cap cs a.left x l × At f cap cs a.right y t
  chosen_at bare i = absurd i
  chosen_at (pick b s q) (lt, n', x', y', e', by', bx', ek', hl, ht) =
      let c = alt_one cap cs (alts_of f r) n' n b a (x' * count_of cs b.right + y') (x * count_of cs a.right + y) e' h.alt bx' h.both (sym ek' ∙ h.number) in
      let er : count_of cs b.right ≡ count_of cs a.right = ap (λ (z : Alt). count_of cs z.right) c.1 in
      let same : x' * count_of cs a.right + y' ≡ x * count_of cs a.right + y = subst (λ z. x' * z + y' ≡ x * count_of cs a.right + y) er c.2 in
      let p = one_cell (count_of cs a.right) x' y' x y (subst (λ z. y' < z) er by') h.within same in (
        s,
        q,
        ap (λ z. pick z s q) c.1,
        subst (λ z. At f cap cs a.left z s) p.0 (subst (λ (z : Alt). At f cap cs z.left x' s) c.1 hl),
        subst (λ z. At f cap cs a.right z q) p.1 (subst (λ (z : Alt). At f cap cs z.right y' q) c.1 ht),
      )

  pub at_chosen : (l t : Unfolding) → r < length f → At f cap cs a.left x l → At f cap cs a.right y t → At f cap cs (Some r) k (pick a l t)
  at_chosen l t lt hl ht = (lt, n, x, y, h.alt, h.within, h.both, h.number, hl, ht)
