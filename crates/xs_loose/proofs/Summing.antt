-- Weights of rules and of components, step by step.
use Rattle.std.proofs.Common.{◌≡◌, ℕ, zero, suc, ◌+◌, ◌*◌, ◌<◌, ◌≤◌, List, [], ◌∷◌, ◌++◌, length, get_or, take, set, sym, ap, subst, ◌∙◌, inl, inr, arith, get_or-set_same, get_or-set_other}
use Rattle.std.specs.List.{Contains}
use Rattle.std.proofs.lemmas.Bool.{cases_lt, cases_eq}
use Rattle.std.proofs.lemmas.List.{take_more}
use Rattle.std.proofs.lemmas.List.Elements.{Contains-get_or, Contains-append_left, Contains-push, Contains-push_cases}
use Rattle.xs_gram.specs.Grammar.{Grammar, rule_of}
use Rattle.xs_gram.specs.Fences.{spread}
use Rattle.xs_gram.specs.Loose.{AreOne, AreComponents}
use Rattle.xs_gram.specs.Sound.{IsInRange}
use Rattle.xs_check_laws.specs.Weights.{capped, Members, no_member, member_next, other_next, ComponentWeighs, component_weighs, RulesWeigh, no_rule_yet, rule_of_member, rule_of_other, BodyWeighs}
use Rattle.xs_loose.specs.Components.{IsListOf, IsNonOf, IsRuleIn}
use Rattle.xs_loose.specs.Weighing.{AreWeights, AreWeightsBefore}
use Rattle.xs_loose.proofs.Bounds.{IsUpTo, up_to_own, up_to_all, none_between}
use Rattle.xs_loose.proofs.Items.{one_there, one_only}

-- rules of other components weigh nothing
others : {g : Grammar} {c p w : ℕ} → RulesWeigh g c p w → (r : ℕ) → p ≤ r → ((q : ℕ) → p ≤ q → q < r → AreOne g c (rule_of g q).non → ⊥) → RulesWeigh g c r w
others {g} {c} {p} {w} h zero le none = let e : p ≡ 0 = omega arith in subst (λ (r : ℕ). RulesWeigh g c r w) e h
others {g} {c} {p} {w} h (suc r) le none = elim (cases_eq p (suc r)) [
  | inl e ↦ subst (λ (r : ℕ). RulesWeigh g c r w) e h
  | inr ne ↦ rule_of_other (none r (omega arith) (omega arith)) (others h r (omega arith) (λ q l m. none q l (omega arith)))
]

-- whatever the bound after the first i rules of the component, the rules before it weigh that much
abbrev pub AreSummed : Grammar → List ℕ → ℕ → ℕ → ℕ → Type 0
AreSummed g rules i c sum = (r : ℕ) → r ≤ length g.rules → IsUpTo rules i r → RulesWeigh g c r sum

module _ (g : Grammar) (comps : List ℕ) (range : IsInRange g) (are : AreComponents g comps) (component : ℕ) (rules : List ℕ) (list : IsListOf (IsRuleIn g comps component) rules) (c : ℕ) (of : IsNonOf g comps component c) where
  pub passed : (i r : ℕ) → r ≤ length g.rules → IsUpTo rules i r → (q : ℕ) → q < r → AreOne g c (rule_of g q).non → (j : ℕ) × (j < i) × (j < length rules) × (get_or rules j 0 ≡ q)
  passed i r low up q l one =
      let rule : q < length g.rules = omega arith in
      none_between rules list i r up q (rule, one_only g comps are component c of (rule_of g q).non (range.rules q rule) one) l

  pub rules_none : AreSummed g rules 0 c 0
  rules_none r low up = others no_rule_yet r (omega arith) (λ q l h one. let at = passed 0 r low up q h one in absurd (omega (arith, at.1)))

  -- no rule of the component lies between the one after the first i and the bound
  pub not_passed : (i p r : ℕ) → i < length rules → p ≡ get_or rules i 0 → r ≤ length g.rules → IsUpTo rules (i + 1) r → (q : ℕ) → suc p ≤ q → q < r → AreOne g c (rule_of g q).non → ⊥
  not_passed i p r l e low up q m h one = by_place (passed (i + 1) r low up q h one)
    where
      by_place : (j : ℕ) × (j < i + 1) × (j < length rules) × (get_or rules j 0 ≡ q) → ⊥
      by_place at = elim (cases_eq at.0 i) [
        | inl same ↦ let f : get_or rules at.0 0 ≡ get_or rules i 0 = ap (λ (k : ℕ). get_or rules k 0) same in omega (arith, at.3)
        | inr ne ↦ let k = list.rising at.0 i (omega (arith, at.1)) l in omega (arith, at.3)
      ]

  pub rules_more : (i p body sum new : ℕ) → i < length rules → p ≡ get_or rules i 0 → BodyWeighs g c (spread g p) body → new ≡ capped (sum + body + 1) → AreSummed g rules i c sum → AreSummed g rules (i + 1) c new
  rules_more i p body sum new l e weighs is summed r low up =
      let below : p < r = omega (arith, up.before i (omega arith)) in
      let own : IsRuleIn g comps component p = list.only p (subst (λ (x : ℕ). Contains rules x) (sym e) (Contains-get_or rules i 0 l)) in
      let first : RulesWeigh g c p sum = summed p (omega arith) (subst (λ (x : ℕ). IsUpTo rules i x) (sym e) (up_to_own rules list i l)) in
      let one : AreOne g c (rule_of g p).non = one_there g comps are component c of (rule_of g p).non (range.rules p own.0) own.1 in
      let second : RulesWeigh g c (suc p) new = rule_of_member one weighs first (omega arith) in
      others second r (omega arith) (λ q m h same. not_passed i p r l e low up q m h same)

  pub rules_all : (i sum : ℕ) → i ≡ length rules → AreSummed g rules i c sum → RulesWeigh g c (length g.rules) sum
  rules_all i sum e summed = summed (length g.rules) (omega arith) (subst (λ (k : ℕ). IsUpTo rules k (length g.rules)) (sym e) (up_to_all rules list (length g.rules) (λ p h. h.0)))

module _ (g : Grammar) (comps : List ℕ) (are : AreComponents g comps) (component : ℕ) (members : List ℕ) (list : IsListOf (IsNonOf g comps component) members) (c : ℕ) (of : IsNonOf g comps component c) where
  counted : (r i : ℕ) → r ≤ g.nons → IsUpTo members i r → i ≤ length members → Members g c r i
  counted zero zero low up le = no_member
  counted zero (suc i) low up le = let h = up.before i (omega arith) in absurd (omega arith)
  counted (suc r) i low up le = elim (cases_eq (get_or comps r 0) component) [
    | inl e ↦
        let at = none_between members list i (suc r) up r (omega arith, e) (omega arith) in
        let last : i ≡ suc at.0 = ends at in
        let own : IsUpTo members at.0 r = subst (λ (x : ℕ). IsUpTo members at.0 x) at.3 (up_to_own members list at.0 at.2) in
        subst (λ (k : ℕ). Members g c (suc r) k) (sym last) (member_next (one_there g comps are component c of r (omega arith) e) (counted r at.0 (omega arith) own (omega (arith, at.2))))
    | inr ne ↦ other_next (λ one. ne (one_only g comps are component c of r (omega arith) one)) (counted r i (omega arith) (record {
      before = λ j l. lower ne j l;
      after = λ j l h. let m = up.after j l h in omega arith;
    }) le)
  ]
    where
      ends : (at : (j : ℕ) × (j < i) × (j < length members) × (get_or members j 0 ≡ r)) → i ≡ suc at.0
      ends at = elim (cases_lt (suc at.0) i) [
        | inl more ↦
            let l = list.rising at.0 (suc at.0) (omega arith) (omega arith) in
            let m = up.before (suc at.0) more in
            absurd (omega (arith, at.3))
        | inr done ↦ omega (arith, at.1)
      ]

      lower : (get_or comps r 0 ≡ component → ⊥) → (j : ℕ) → j < i → get_or members j 0 < r
      lower ne j l =
          let m = up.before j l in
          let is : get_or comps (get_or members j 0) 0 ≡ component = (list.only (get_or members j 0) (Contains-get_or members j 0 (omega arith))).1 in
          elim (cases_eq (get_or members j 0) r) [
            | inl same ↦ absurd (ne (ap (λ (k : ℕ). get_or comps k 0) (sym same) ∙ is))
            | inr apart ↦ omega arith
          ]

  pub all_members : Members g c g.nons (length members)
  all_members = counted g.nons (length members) (omega arith) (up_to_all members list g.nons (λ n h. h.0)) (omega arith)

-- the weight of a component
pub component_is : (g : Grammar) (comps : List ℕ) → IsInRange g → AreComponents g comps → (component : ℕ) (members rules : List ℕ) → IsListOf (IsNonOf g comps component) members → IsListOf (IsRuleIn g comps component) rules → (i sum w c : ℕ) → i ≡ length rules → IsNonOf g comps component c → AreSummed g rules i c sum → w ≡ capped (2 * length members + sum) → ComponentWeighs g c w
component_is g comps range are component members rules list own i sum w c e of summed is = component_weighs (all_members g comps are component members list c of) (rules_all g comps range are component rules own c of i sum e summed) is

-- one more number is written in a table
pub set_more : (table nons new : List ℕ) (i n w : ℕ) → n ≡ get_or nons i 0 → i < length nons → n < length table → new ≡ set table n w → ((m : ℕ) → Contains (take i nons) m → get_or table m 0 ≡ w) → (m : ℕ) → Contains (take (i + 1) nons) m → get_or new m 0 ≡ w
set_more table nons new i n w is l low e set_before m h =
    let x : take (i + 1) nons ≡ take i nons ++ n ∷ [] = take_more nons i 0 l ∙ ap (λ (k : ℕ). take i nons ++ k ∷ []) (sym is) in
    rw e (elim (cases_eq m n) [
      | inl same ↦ rw same (get_or-set_same table n w 0 low)
      | inr ne ↦ get_or-set_other table n m w 0 ne ∙ elim (Contains-push_cases (take i nons) n m (rw x at h)) [
        | inl before ↦ set_before m before
        | inr here ↦ absurd (ne (sym here))
      ]
    ])

pub kept_more : (first table nons new : List ℕ) (i n w : ℕ) → n ≡ get_or nons i 0 → i < length nons → new ≡ set table n w → ((m : ℕ) → (Contains (take i nons) m → ⊥) → get_or table m 0 ≡ get_or first m 0) → (m : ℕ) → (Contains (take (i + 1) nons) m → ⊥) → get_or new m 0 ≡ get_or first m 0
kept_more first table nons new i n w is l e kept m out =
    let x : take (i + 1) nons ≡ take i nons ++ n ∷ [] = take_more nons i 0 l ∙ ap (λ (k : ℕ). take i nons ++ k ∷ []) (sym is) in
    let other : m ≡ n → ⊥ = λ same. out (rw (x, same) (Contains-push (take i nons) n)) in
    rw e (get_or-set_other table n m w 0 other ∙ kept m (λ h. out (rw x (Contains-append_left (take i nons) (n ∷ []) m h))))

-- the weights of one more component
pub weights_more : (g : Grammar) (comps : List ℕ) (component w : ℕ) (members table new : List ℕ) → IsListOf (IsNonOf g comps component) members → AreWeightsBefore g comps component table → ((c : ℕ) → IsNonOf g comps component c → ComponentWeighs g c w) → length new ≡ length table → ((n : ℕ) → Contains members n → get_or new n 0 ≡ w) → ((n : ℕ) → (Contains members n → ⊥) → get_or new n 0 ≡ get_or table n 0) → AreWeightsBefore g comps (component + 1) new
weights_more g comps component w members table new list are weighs long written kept = record {
  counted = long ∙ are.counted;
  each = λ n l h. elim (cases_eq (get_or comps n 0) component) [
    | inl e ↦ rw (written n (list.there n (l, e))) (weighs n (l, e))
    | inr ne ↦ rw (kept n (λ m. ne (list.only n m).1)) (are.each n l (omega arith))
  ];
}

pub weights_none : (g : Grammar) (comps table : List ℕ) → length table ≡ g.nons → AreWeightsBefore g comps 0 table
weights_none g comps table e = record { counted = e; each = λ n l h. absurd (omega arith) }

pub weights_all : (g : Grammar) (comps table : List ℕ) (component : ℕ) → ((n : ℕ) → n < g.nons → get_or comps n 0 < component) → AreWeightsBefore g comps component table → AreWeights g table
weights_all g comps table component below are = record { counted = are.counted; each = λ n l. are.each n l (below n l) }

-- the members of a component have a place in a table of all nonterminals
pub members_within : (g : Grammar) (comps : List ℕ) (component : ℕ) (members : List ℕ) (table : List ℕ) → IsListOf (IsNonOf g comps component) members → length table ≡ g.nons → (k d : ℕ) → k < length members → get_or members k d < length table
members_within g comps component members table list long k d l = let h = list.only (get_or members k d) (Contains-get_or members k d l) in omega (arith, h.0)
