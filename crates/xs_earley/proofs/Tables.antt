-- Rows of numbers: the empty ones, those of the states in which a nonterminal's rules begin, and those of the ends of the start's rules.
use Rattle.std.proofs.Common.{◌≡◌, ◌≢◌, ℕ, zero, suc, ◌+◌, ◌<◌, List, [], ◌∷◌, ◌++◌, length, get_or, set, refl, sym, ◌∙◌, ap, subst, arith, inl, inr, length-set, get_or-set_same, get_or-set_other}
use Rattle.std.specs.Prelude.{Contains}
use Rattle.std.proofs.lemmas.Bool.{cases_eq}
use Rattle.std.proofs.lemmas.List.Elements.{Contains-append_left, Contains-push, Contains-push_cases}
use Rattle.xs_class.proofs.Lists.{contains_of}
use Rattle.xs_chart.specs.Different.{AreDifferent}
use Rattle.xs_chart.proofs.Different.{different_more}
use Rattle.xs_gram.specs.declared.places.Place.{Place}
use Rattle.xs_gram.specs.Grammar.{Grammar, items, rule_of}
use Rattle.xs_gram.specs.Places.{at_dot}
use Rattle.xs_chart_laws.specs.Charts.{IsNumber}
use Rattle.xs_chart_laws.proofs.Numbers.{one_place}
use Rattle.xs_earley.specs.Starts.{IsStart, AreStarts, IsEnd, AreEnds}
use Rattle.xs_chart.proofs.Advancing.{no_element}

-- one empty list more
pub empty_more : {X : Type 0} (rows : List (List X)) → ((k : ℕ) → get_or rows k [] ≡ []) → (k : ℕ) → get_or (rows ++ [] ∷ []) k [] ≡ []
empty_more [] empty zero = refl
empty_more [] empty (suc k) = refl
empty_more (row ∷ rows) empty zero = empty 0
empty_more (row ∷ rows) empty (suc k) = empty_more rows (λ n. empty (suc n)) k

-- of no rules each row is empty
pub starts_none : (g : Grammar) (rows : List (List ℕ)) → length rows ≡ g.nons → ((k : ℕ) → get_or rows k [] ≡ []) → AreStarts g 0 rows
starts_none g rows counted empty = record {
  counted = counted;
  exact = λ non state lt. ((λ h. absurd (no_element state (subst (λ (l : List ℕ). Contains l state) (empty non) h))), (λ h. absurd (omega (arith, h.1))));
  different = λ non j k x a b. absurd (no_element x (subst (λ (l : List ℕ). Contains l x) (empty non) (contains_of (get_or rows non []) j x a)));
}

-- one rule more
pub starts_more : (g : Grammar) (count m state : ℕ) (rows : List (List ℕ)) → count < length g.rules → m ≡ (rule_of g count).non → m < g.nons → IsNumber g state (at_dot count 0) → ((k : ℕ) → IsNumber g k (at_dot count 0) → k ≡ state)
    → AreStarts g count rows → AreStarts g (count + 1) (set rows m (get_or rows m [] ++ state ∷ []))
starts_more g count m state rows lt is within number once known = record {
  counted = length-set rows m (get_or rows m [] ++ state ∷ []) ∙ known.counted;
  exact = λ non s below. elim (cases_eq non m) [
    | inl e ↦ (to_here non s below e, from_here non s below e)
    | inr ne ↦ (to_other non s below ne, from_other non s below ne)
  ];
  different = λ non. elim (cases_eq non m) [
    | inl e ↦ subst (λ (l : List ℕ). AreDifferent l) (sym (here non e)) (different_more (get_or rows non []) state (known.different non) (absent non e))
    | inr ne ↦ subst (λ (l : List ℕ). AreDifferent l) (sym (other non ne)) (known.different non)
  ];
}
  where
    there : m < length rows
    there = subst (λ n. m < n) (sym known.counted) within

    here : (non : ℕ) → non ≡ m → get_or (set rows m (get_or rows m [] ++ state ∷ [])) non [] ≡ get_or rows non [] ++ state ∷ []
    here non e = subst (λ n. get_or (set rows m (get_or rows m [] ++ state ∷ [])) n [] ≡ get_or rows n [] ++ state ∷ []) (sym e) (get_or-set_same rows m (get_or rows m [] ++ state ∷ []) [] there)

    other : (non : ℕ) → non ≢ m → get_or (set rows m (get_or rows m [] ++ state ∷ [])) non [] ≡ get_or rows non []
    other non ne = get_or-set_other rows m non (get_or rows m [] ++ state ∷ []) [] ne

    -- the state is not that of a rule before it
    absent : (non : ℕ) → non ≡ m → Contains (get_or rows non []) state → ⊥
    absent non e h =
        let old = (known.exact non state (subst (λ n. n < g.nons) (sym e) within)).0 h in
        let one : old.0.0 ≡ count = ap (λ (c : Place). c.rule) (one_place g state (at_dot old.0.0 0) (at_dot count 0) old.0.2 number) in
        let less : old.0.0 < count = old.1 in
        omega (arith, one, less)

    to_here : (non s : ℕ) → non < g.nons → non ≡ m → Contains (get_or (set rows m (get_or rows m [] ++ state ∷ [])) non []) s → (start : IsStart g non s) × (start.0 < count + 1)
    to_here non s below e h = elim (Contains-push_cases (get_or rows non []) state s (subst (λ (l : List ℕ). Contains l s) (here non e) h)) [
      | inl old ↦ let r = (known.exact non s below).0 old in (r.0, (let less : r.0.0 < count = r.1 in omega arith))
      | inr new ↦ ((count, (lt, sym is ∙ sym e), subst (λ n. IsNumber g n (at_dot count 0)) new number), omega arith)
    ]

    from_here : (non s : ℕ) → non < g.nons → non ≡ m → ((start : IsStart g non s) × (start.0 < count + 1)) → Contains (get_or (set rows m (get_or rows m [] ++ state ∷ [])) non []) s
    from_here non s below e h = subst (λ (l : List ℕ). Contains l s) (sym (here non e)) (elim (cases_eq h.0.0 count) [
      | inl same ↦
          let one : s ≡ state = once s (subst (λ n. IsNumber g s (at_dot n 0)) same h.0.2) in
          subst (λ n. Contains (get_or rows non [] ++ state ∷ []) n) (sym one) (Contains-push (get_or rows non []) state)
      | inr less ↦
          let le : h.0.0 < count + 1 = h.1 in
          let before : h.0.0 < count = omega arith in
          Contains-append_left (get_or rows non []) (state ∷ []) s ((known.exact non s below).1 (h.0, before))
    ])

    to_other : (non s : ℕ) → non < g.nons → non ≢ m → Contains (get_or (set rows m (get_or rows m [] ++ state ∷ [])) non []) s → (start : IsStart g non s) × (start.0 < count + 1)
    to_other non s below ne h =
        let r = (known.exact non s below).0 (subst (λ (l : List ℕ). Contains l s) (other non ne) h) in
        (r.0, (let less : r.0.0 < count = r.1 in omega arith))

    from_other : (non s : ℕ) → non < g.nons → non ≢ m → ((start : IsStart g non s) × (start.0 < count + 1)) → Contains (get_or (set rows m (get_or rows m [] ++ state ∷ [])) non []) s
    from_other non s below ne h =
        let le : h.0.0 < count + 1 = h.1 in
        let not_new = λ (e : h.0.0 ≡ count). ne (sym h.0.1.1 ∙ ap (λ n. (rule_of g n).non) e ∙ sym is) in
        let before : h.0.0 < count = elim (cases_eq h.0.0 count) [ inl e ↦ absurd (not_new e) | inr less ↦ omega arith ] in
        subst (λ (l : List ℕ). Contains l s) (sym (other non ne)) ((known.exact non s below).1 (h.0, before))

-- one rule of the start more
pub ends_more : (g : Grammar) (count state : ℕ) (ends : List ℕ) → count < length g.rules → (rule_of g count).non ≡ g.start → IsNumber g state (at_dot count (length (items g count))) → ((k : ℕ) → IsNumber g k (at_dot count (length (items g count))) → k ≡ state)
    → AreEnds g count ends → AreEnds g (count + 1) (ends ++ state ∷ [])
ends_more g count state ends lt is number once known s = (to, from)
  where
    to : Contains (ends ++ state ∷ []) s → (end : IsEnd g s) × (end.0 < count + 1)
    to h = elim (Contains-push_cases ends state s h) [
      | inl old ↦ let r = (known s).0 old in (r.0, (let less : r.0.0 < count = r.1 in omega arith))
      | inr new ↦ ((count, (lt, is), subst (λ n. IsNumber g n (at_dot count (length (items g count)))) new number), omega arith)
    ]

    from : ((end : IsEnd g s) × (end.0 < count + 1)) → Contains (ends ++ state ∷ []) s
    from h = elim (cases_eq h.0.0 count) [
      | inl same ↦
          let one : s ≡ state = once s (subst (λ n. IsNumber g s (at_dot n (length (items g n)))) same h.0.2) in
          subst (λ n. Contains (ends ++ state ∷ []) n) (sym one) (Contains-push ends state)
      | inr less ↦
          let le : h.0.0 < count + 1 = h.1 in
          let before : h.0.0 < count = omega arith in
          Contains-append_left ends (state ∷ []) s ((known s).1 (h.0, before))
    ]

-- one rule more that is not of the start
pub ends_other : (g : Grammar) (count : ℕ) (ends : List ℕ) → (rule_of g count).non ≢ g.start → AreEnds g count ends → AreEnds g (count + 1) ends
ends_other g count ends ne known s = (
  λ h. let r = (known s).0 h in (r.0, (let less : r.0.0 < count = r.1 in omega arith)),
  λ h.
      let le : h.0.0 < count + 1 = h.1 in
      let before : h.0.0 < count = elim (cases_eq h.0.0 count) [ inl e ↦ absurd (ne (subst (λ n. (rule_of g n).non ≡ g.start) e h.0.1.1)) | inr less ↦ omega arith ] in
      (known s).1 (h.0, before),
)
