-- The labels of an alternative's children come before the label of its row.
use Rattle.std.proofs.Common.{◌≡◌, ◌≢◌, ℕ, zero, suc, ◌-◌, ◌<◌, ◌≤◌, List, [], ◌∷◌, length, take, Bool, true, false, Some, refl, sym, ap, ◌∙◌, arith, subst, inl, inr}
use Rattle.std.proofs.lemmas.Bool.{cases_lt, cases_Bool}
use Rattle.std.specs.Prelude.{slice_get}
use Rattle.xs_gram.specs.declared.parts.GItem.{GItem}
use Rattle.xs_gram.specs.declared.parts.GItem.TheVariants.{Fixed, Term, Non, Skip}
use Rattle.xs_gram.specs.Grammar.{Grammar, rule_of, items, IsRuleOf, ItemAt, IsTermWord, IsSkipWord}
use Rattle.xs_gram.specs.Derivations.{Parts, fixed, leaf, skip, sub, FitsItems, parts_yield}
use Rattle.xs_gram.specs.Sound.{IsNullableItem, LeadsTo}
use Rattle.xs_chart_laws.specs.Reading.{Reads}
use Rattle.xs_chart_laws.proofs.Words.{get_lt, Reads-is}
use Rattle.xs_forest_laws.specs.declared.span.What.TheVariants.{Whole, Front}
use Rattle.xs_forest_laws.specs.Forest.{IsSpelt}
use Rattle.xs_forest_laws.specs.Order.{IsRanked, IsNullableFrom, IsTail, level, IsLess}
use Rattle.xs_class.proofs.Lists.{some_same, front_empty, rest_empty, get_taken}

no_length : (u : List ℕ) → length u ≡ 0 → u ≡ []
no_length [] e = refl
no_length (x ∷ u) e = absurd (omega arith)

reads_none : (w : List ℕ) (i : ℕ) (u : List ℕ) → Reads w i u i → u ≡ []
reads_none w i u r = no_length u (omega (arith, Reads-is w i u i r))

get_none : {X : Type 0} (k : ℕ) (x : X) → slice_get [] k ≡ Some x → ⊥
get_none k x e = cc

get_first : {X : Type 0} (xs : List X) (x y : X) → slice_get (x ∷ xs) 0 ≡ Some y → x ≡ y
get_first xs x y e = cc

module _ (g : Grammar) where
  -- the first item of parts that spell the empty word is nullable, and the other parts spell it too
  first_nullable : (item : GItem) (is : List GItem) (ps : Parts) → FitsItems g (item ∷ is) ps → parts_yield ps ≡ [] → IsNullableItem g item
  first_nullable (Fixed v) is (fixed u ps) f e = sym f.0 ∙ front_empty u (parts_yield ps) e
  first_nullable (Term t s) is (leaf u ps) f e = subst (λ z. IsTermWord g t z) (front_empty u (parts_yield ps) e) f.0
  first_nullable (Skip k) is (skip u ps) f e = subst (λ z. IsSkipWord g k z) (front_empty u (parts_yield ps) e) f.0
  first_nullable (Non n s) is (sub q qs ps) f e = (record { rule = q; parts = qs }, (f.0, f.1), front_empty (parts_yield qs) (parts_yield ps) e)
  first_nullable _ is _ f e = absurd f

  rest_nullable : (item : GItem) (is : List GItem) (ps : Parts) → FitsItems g (item ∷ is) ps → parts_yield ps ≡ [] → (rs : Parts) × FitsItems g is rs × (parts_yield rs ≡ [])
  rest_nullable (Fixed v) is (fixed u ps) f e = (ps, f.1, rest_empty u (parts_yield ps) e)
  rest_nullable (Term t s) is (leaf u ps) f e = (ps, f.1, rest_empty u (parts_yield ps) e)
  rest_nullable (Skip k) is (skip u ps) f e = (ps, f.1, rest_empty u (parts_yield ps) e)
  rest_nullable (Non n s) is (sub q qs ps) f e = (ps, f.2, rest_empty (parts_yield qs) (parts_yield ps) e)
  rest_nullable _ is _ f e = absurd f

  -- each item of parts that spell the empty word is nullable
  each_nullable : (is : List GItem) (ps : Parts) → FitsItems g is ps → parts_yield ps ≡ [] → (k : ℕ) (item : GItem) → slice_get is k ≡ Some item → IsNullableItem g item
  each_nullable [] ps f e k item at = absurd (get_none k item at)
  each_nullable (x ∷ is) ps f e zero item at = subst (λ z. IsNullableItem g z) (get_first is x item at) (first_nullable x is ps f e)
  each_nullable (x ∷ is) ps f e (suc k) item at = let r = rest_nullable x is ps f e in each_nullable is r.0 r.1 r.2 k item at

module _ (g : Grammar) (w : List ℕ) where
  -- items that spell an empty stretch are nullable
  pub spelt_nullable : (is : List GItem) (i j : ℕ) → i ≡ j → IsSpelt g w is i j → (k : ℕ) (item : GItem) → slice_get is k ≡ Some item → IsNullableItem g item
  spelt_nullable is i j e (ps, (f, r)) k item at = each_nullable g is ps f (reads_none w i (parts_yield ps) (rw (sym e) at r)) k item at

  pub spelt_le : (is : List GItem) (i j : ℕ) → IsSpelt g w is i j → i ≤ j
  spelt_le is i j (ps, (f, r)) = omega (arith, Reads-is w i (parts_yield ps) j r)

  module _ (rank : ℕ → ℕ) (tail : ℕ → ℕ → Bool) (is_tail : IsTail g tail) where
    tail_level : (p d i j : ℕ) → tail p d ≡ true → level g rank tail (Front p d) i j ≡ (j - i) ∷ 0 ∷ rank (rule_of g p).non ∷ 0 ∷ d ∷ []
    tail_level p d i j e = rw e refl

    other_level : (p d i j : ℕ) → tail p d ≡ false → level g rank tail (Front p d) i j ≡ (j - i) ∷ 1 ∷ 0 ∷ 0 ∷ d ∷ []
    other_level p d i j e = rw e refl

    -- by the length of the stretch alone
    span_less : (p d i j : ℕ) (x : ℕ) (xs : List ℕ) → x < j - i → IsLess (x ∷ xs) (level g rank tail (Front p d) i j)
    span_less p d i j x xs lt = elim (cases_Bool (tail p d)) [
      | inl e ↦ rw (tail_level p d i j e) (inl lt)
      | inr e ↦ rw (other_level p d i j e) (inl lt)
    ]

    none_after : (q : ℕ) → IsNullableFrom g q (length (items g q))
    none_after q k item le at = let lt = get_lt (items g q) k item at in absurd (omega arith)

    -- the last front of a rule comes before the whole
    pub whole_below : (n q i j : ℕ) → IsRuleOf g n q → IsLess (level g rank tail (Front q (length (items g q))) i j) (level g rank tail (Whole n) i j)
    whole_below n q i j rule =
        let e : tail q (length (items g q)) ≡ true = (is_tail q (length (items g q)) rule.0 (omega arith)).1 (none_after q) in
        let er : rank (rule_of g q).non ≡ rank n = ap rank rule.1 in
        rw (tail_level q (length (items g q)) i j e) (inr (refl, inr (refl, inr (er, inl (omega arith)))))

    module _ (p d i m j : ℕ) (item : GItem) (in_range : p < length g.rules) (at : ItemAt g p d item) (before : IsSpelt g w (take d (items g p)) i m) (last : IsSpelt g w (item ∷ []) m j) where
      -- one more nullable item
      nullable_from : m ≡ j → IsNullableFrom g p (suc d) → IsNullableFrom g p d
      nullable_from e rest k other le there = elim (cases_lt d k) [
        | inl lt ↦ rest k other lt there
        | inr ge ↦
            let same : k ≡ d = omega arith in
            let is : item ≡ other = some_same (slice_get (items g p) d) item other at (subst (λ z. slice_get (items g p) z ≡ Some other) same there) in
            spelt_nullable (item ∷ []) m j e last 0 other (ap Some is)
      ]

      same_front : m ≡ j → IsLess (level g rank tail (Front p d) i m) (level g rank tail (Front p (suc d)) i j)
      same_front e =
          let s : m - i ≡ j - i = rw e refl in
          let lt = get_lt (items g p) d item at in
          elim (cases_Bool (tail p (suc d))) [
            | inl t ↦
                let t' : tail p d ≡ true = (is_tail p d in_range (omega arith)).1 (nullable_from e ((is_tail p (suc d) in_range (omega arith)).0 t)) in
                rw (tail_level p (suc d) i j t, tail_level p d i m t') (inr (s, inr (refl, inr (refl, inr (refl, inl (omega arith))))))
            | inr t ↦ elim (cases_Bool (tail p d)) [
              | inl t' ↦ rw (other_level p (suc d) i j t, tail_level p d i m t') (inr (s, inl (omega arith)))
              | inr t' ↦ rw (other_level p (suc d) i j t, other_level p d i m t') (inr (s, inr (refl, inr (refl, inr (refl, inl (omega arith))))))
            ]
          ]

      -- the front before the last item comes before the front
      pub front_below : IsLess (level g rank tail (Front p d) i m) (level g rank tail (Front p (suc d)) i j)
      front_below = elim (cases_lt m j) [
        | inl lt ↦
            let le = spelt_le (take d (items g p)) i m before in
            let s : m - i < j - i = omega arith in
            elim (cases_Bool (tail p d)) [
              | inl t ↦ rw (tail_level p d i m t) (span_less p (suc d) i j (m - i) (0 ∷ rank (rule_of g p).non ∷ 0 ∷ d ∷ []) s)
              | inr t ↦ rw (other_level p d i m t) (span_less p (suc d) i j (m - i) (1 ∷ 0 ∷ 0 ∷ d ∷ []) s)
            ]
        | inr ge ↦
            let le = spelt_le (item ∷ []) m j last in
            let e : m ≡ j = omega arith in
            same_front e
      ]

    -- the nonterminal leads to its item where the items before spell the empty word and those after are nullable
    leads : (n p d i m v k : ℕ) → IsRuleOf g n p → ItemAt g p d (Non k v) → i ≡ m → IsSpelt g w (take d (items g p)) i m → IsNullableFrom g p (suc d) → LeadsTo g n k
    leads n p d i m v k of at e before rest = record { rule = p; dot = d; slot = v; of = of; item = at; others = others }
      where
        others : (l : ℕ) (other : GItem) → l ≢ d → ItemAt g p l other → IsNullableItem g other
        others l other differ there = elim (cases_lt l d) [
          | inl lt ↦ spelt_nullable (take d (items g p)) i m e before l other (get_taken (items g p) d l other lt there)
          | inr ge ↦ elim (cases_lt d l) [
            | inl lt ↦ rest l other lt there
            | inr le ↦ absurd (differ (omega arith))
          ]
        ]

    -- the whole of the last item comes before the front
    pub last_below : IsRanked g rank → (n p d i m j v k : ℕ) → IsRuleOf g n p → ItemAt g p d (Non k v) → IsSpelt g w (take d (items g p)) i m → IsSpelt g w (Non k v ∷ []) m j → IsLess (level g rank tail (Whole k) m j) (level g rank tail (Front p (suc d)) i j)
    last_below ranked n p d i m j v k rule at before last = elim (cases_lt i m) [
      | inl lt ↦
          let le = spelt_le (Non k v ∷ []) m j last in
          let s : j - m < j - i = omega arith in
          span_less p (suc d) i j (j - m) (0 ∷ rank k ∷ 1 ∷ 0 ∷ []) s
      | inr ge ↦
          let le = spelt_le (take d (items g p)) i m before in
          let e : i ≡ m = omega arith in
          let s : j - m ≡ j - i = rw e refl in
          elim (cases_Bool (tail p (suc d))) [
            | inl t ↦
                let within = get_lt (items g p) d (Non k v) at in
                let step = leads n p d i m v k rule at e before ((is_tail p (suc d) rule.0 (omega arith)).0 t) in
                let lt : rank k < rank (rule_of g p).non = rw rule.1 (ranked n k step) in
                rw (tail_level p (suc d) i j t) (inr (s, inr (refl, inl lt)))
            | inr t ↦ rw (other_level p (suc d) i j t) (inr (s, inl (omega arith)))
          ]
    ]
