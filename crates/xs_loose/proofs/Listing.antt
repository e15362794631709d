-- Groups by a key, made place by place.
use Rattle.std.proofs.Common.{◌≡◌, ℕ, ◌+◌, ◌<◌, ◌≤◌, List, [], ◌∷◌, ◌++◌, length, get_or, set, take, sym, ap, subst, ◌∙◌, inl, inr, arith, get_or-set_same, get_or-set_other}
use Rattle.std.specs.List.{All, Contains}
use Rattle.std.proofs.lemmas.Bool.{cases_lt, cases_eq}
use Rattle.std.proofs.lemmas.List.{get_or_append_left, get_or_push, get_or_past, get_or_default, length_push}
use Rattle.std.proofs.lemmas.List.Elements.{Contains-get_or, Contains-append_left, Contains-push, Contains-push_cases, All-weaker, All-more}
use Rattle.xs_class.proofs.Lists.{nothing_in}
use Rattle.xs_gram.specs.Grammar.{Grammar, rule_of}
use Rattle.xs_gram.specs.Sound.{IsInRange}
use Rattle.xs_gram.specs.Loose.{AreComponents}
use Rattle.xs_loose.specs.Components.{IsListOf, HasKey, AreListed, AreRuleKeys, IsNonOf, IsRuleIn}

pub list_as : {P Q : ℕ → Type 0} (xs : List ℕ) → ((i : ℕ) → P i → Q i) → ((i : ℕ) → Q i → P i) → IsListOf P xs → IsListOf Q xs
list_as xs to back list = record {
  there = λ i q. list.there i (back i q);
  only = λ i h. to i (list.only i h);
  rising = list.rising;
}

pub lists_none : (keys : List ℕ) (lists : List (List ℕ)) → ((key : ℕ) → get_or lists key [] ≡ []) → AreListed keys 0 lists
lists_none keys lists blank key = record {
  there = λ i h. absurd (omega (arith, h.0));
  only = λ i h. absurd (nothing_in (get_or lists key []) i (blank key) h);
  rising = λ j k l h. absurd (nothing_in (get_or lists key []) (get_or (get_or lists key []) k 0) (blank key) (Contains-get_or (get_or lists key []) k 0 h));
}

-- a list of no greater numbers rises on to its next one
rising_more : (xs : List ℕ) (end : ℕ) → ((i : ℕ) → Contains xs i → i < end) → ((j k : ℕ) → j < k → k < length xs → get_or xs j 0 < get_or xs k 0) → (j k : ℕ) → j < k → k < length (xs ++ end ∷ []) → get_or (xs ++ end ∷ []) j 0 < get_or (xs ++ end ∷ []) k 0
rising_more xs end below rising j k l h =
    let n = length_push xs end in
    elim (cases_lt k (length xs)) [
      | inl within ↦ rw (get_or_append_left xs (end ∷ []) 0 k within, get_or_append_left xs (end ∷ []) 0 j (omega arith)) (rising j k l within)
      | inr last ↦ rw (get_or_push xs end 0 k (omega arith), get_or_append_left xs (end ∷ []) 0 j (omega arith)) (below (get_or xs j 0) (Contains-get_or xs j 0 (omega arith)))
    ]

longer : (keys : List ℕ) (end key i : ℕ) → HasKey keys end key i → HasKey keys (end + 1) key i
longer keys end key i h = (omega (arith, h.0), h.1)

-- the place of one more key is added to its list
pub lists_more : (keys : List ℕ) (lists new : List (List ℕ)) (end key : ℕ) (list : List ℕ) → key ≡ get_or keys end 0 → key < length lists → list ≡ get_or lists key [] → new ≡ set lists key (list ++ end ∷ []) → AreListed keys end lists → AreListed keys (end + 1) new
lists_more keys lists new end key list is low r e are other = elim (cases_eq other key) [
  | inl same ↦ rw (same, e, get_or-set_same lists key (list ++ end ∷ []) [] low) own
  | inr ne ↦ rw (e, get_or-set_other lists key other (list ++ end ∷ []) [] ne) (record {
    there = λ i h. (are other).there i (before i h ne);
    only = λ i h. longer keys end other i ((are other).only i h);
    rising = (are other).rising;
  })
]
  where
    before : (i : ℕ) → HasKey keys (end + 1) other i → (other ≡ key → ⊥) → HasKey keys end other i
    before i h ne = elim (cases_lt i end) [
      | inl l ↦ (l, h.1)
      | inr last ↦
          let at : i ≡ end = omega (arith, h.0) in
          absurd (ne (sym h.1 ∙ ap (λ (k : ℕ). get_or keys k 0) at ∙ sym is))
    ]

    was : IsListOf (HasKey keys end key) list
    was = rw r (are key)

    own : IsListOf (HasKey keys (end + 1) key) (list ++ end ∷ [])
    own = record {
      there = λ i h. elim (cases_lt i end) [
        | inl l ↦ Contains-append_left list (end ∷ []) i (was.there i (l, h.1))
        | inr last ↦ let at : i ≡ end = omega (arith, h.0) in rw at (Contains-push list end)
      ];
      only = λ i h. elim (Contains-push_cases list end i h) [
        | inl old ↦ longer keys end key i (was.only i old)
        | inr at ↦ rw (← at) (omega arith, sym is)
      ];
      rising = rising_more list end (λ i h. (was.only i h).0) was.rising;
    }

pub blank_more : (lists : List (List ℕ)) → ((key : ℕ) → get_or lists key [] ≡ []) → (key : ℕ) → get_or (lists ++ [] ∷ []) key [] ≡ []
blank_more lists blank key = elim (cases_lt key (length lists)) [
  | inl low ↦ get_or_append_left lists ([] ∷ []) [] key low ∙ blank key
  | inr high ↦ elim (cases_eq (length lists) key) [
    | inl last ↦ get_or_push lists [] [] key last
    | inr past ↦ get_or_past (lists ++ [] ∷ []) key [] (omega (arith, length_push {X = List ℕ} lists []))
  ]
]

pub bound_more : (keys : List ℕ) (i bound new : ℕ) → i < length keys → bound ≤ new → get_or keys i 0 < new → All (λ k. k < bound) (take i keys) → All (λ k. k < new) (take (i + 1) keys)
bound_more keys i bound new l more here before = All-more (λ k. k < new) keys i 0 l (All-weaker (λ k. k < bound) (λ k. k < new) (λ k h. omega arith) (take i keys) before) here

pub keys_more : (g : Grammar) (comps keys : List ℕ) (end key : ℕ) → key ≡ get_or comps (rule_of g end).non 0 → AreRuleKeys g comps end keys → AreRuleKeys g comps (end + 1) (keys ++ key ∷ [])
keys_more g comps keys end key is are = record {
  counted = omega (arith, length_push keys key, are.counted);
  each = λ p l. elim (cases_lt p end) [
    | inl before ↦ rw (get_or_append_left keys (key ∷ []) 0 p (omega (arith, are.counted))) (are.each p before)
    | inr after ↦
        let at : p ≡ end = omega arith in
        rw (at, get_or_push keys key 0 end are.counted) is
  ];
}

-- the lists of keys are those of nonterminals and of rules
pub members_listed : (g : Grammar) (comps : List ℕ) (lists : List (List ℕ)) → AreComponents g comps → AreListed comps g.nons lists → (component : ℕ) → IsListOf (IsNonOf g comps component) (get_or lists component [])
members_listed g comps lists are listed component = listed component

pub rules_listed : (g : Grammar) (comps keys : List ℕ) (lists : List (List ℕ)) → AreRuleKeys g comps (length g.rules) keys → AreListed keys (length g.rules) lists → (component : ℕ) → IsListOf (IsRuleIn g comps component) (get_or lists component [])
rules_listed g comps keys lists are listed component = list_as (get_or lists component []) to back (listed component)
  where
    to : (p : ℕ) → HasKey keys (length g.rules) component p → IsRuleIn g comps component p
    to p h = (h.0, sym (are.each p h.0) ∙ h.1)

    back : (p : ℕ) → IsRuleIn g comps component p → HasKey keys (length g.rules) component p
    back p h = (h.0, are.each p h.0 ∙ h.1)

-- all keys of rules are below what all components are
pub keys_below : (g : Grammar) (comps keys : List ℕ) (count : ℕ) → IsInRange g → AreComponents g comps → AreRuleKeys g comps (length g.rules) keys → All (λ k. k < count) comps → All (λ k. k < count) keys
keys_below g comps keys count range are of below p d l =
    let rule : p < length g.rules = omega (arith, of.counted) in
    let non : (rule_of g p).non < length comps = omega (arith, range.rules p rule, are.counted) in
    subst (λ (k : ℕ). k < count) (sym (of.each p rule) ∙ get_or_default keys p 0 d l) (below (rule_of g p).non 0 non)

pub components_below : (g : Grammar) (comps : List ℕ) (count : ℕ) → AreComponents g comps → All (λ k. k < count) comps → (n : ℕ) → n < g.nons → get_or comps n 0 < count
components_below g comps count are below n l = below n 0 (omega (arith, are.counted))
