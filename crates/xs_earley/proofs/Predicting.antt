-- Nonterminals whose rules are begun in a set: the marked ones, and they alone.
use Rattle.std.proofs.Common.{◌≡◌, ◌↔◌, ℕ, suc, ◌<◌, Bool, true, false, List, length, get_or, set, inl, inr, refl, sym, ◌∙◌, ap, subst, arith, get_or-set_same, get_or-set_other}
use Rattle.std.specs.Prelude.{Contains, slice_index_or}
use Rattle.std.proofs.lemmas.Bool.{cases_eq, false≢true}
use Rattle.std.proofs.lemmas.Option.{none-some}
use Rattle.std.proofs.lemmas.List.Elements.{Contains-append_cases}
use Rattle.xs_chart.specs.declared.item.Item.{Item}
use Rattle.xs_chart.specs.Charted.{Charted, with_items, item_from, items_from}
use Rattle.xs_chart.proofs.States.{state_of, item_of}
use Rattle.xs_gram.specs.declared.places.Place.{Place}
use Rattle.xs_gram.specs.Grammar.{Grammar, rule_of, IsRuleOf}
use Rattle.xs_gram.specs.Places.{at_dot, at_inside}
use Rattle.xs_chart_laws.specs.Steps.{next_of, Arrives}
use Rattle.xs_chart_laws.specs.Charts.{IsNumber, set_at, HasPlace}
use Rattle.xs_chart_laws.proofs.Numbers.{first_place, has_number, one_place}
use Rattle.xs_chart_laws.proofs.Settling.{has_place_more}
use Rattle.xs_earley.specs.Adding.{IsOf, Adds, Calls, AreCalled}
use Rattle.xs_earley.specs.Starts.{IsStart}
use Rattle.xs_earley.proofs.Additions.{puts_none, puts_weaker, puts_kept, appended_puts, appended_there}

-- LATER PLACES

-- the place is not the beginning of a rule
abbrev pub IsLater : Place → Type 0
IsLater c = (q : ℕ) → c ≡ at_dot q 0 → ⊥

pub next_later : (c d : Place) → c ≡ next_of d → IsLater c
next_later c d is q e = let zero : suc d.dot ≡ 0 = ap (λ (p : Place). p.dot) (sym is ∙ e) in absurd (omega (arith, zero))

pub inside_later : (c : Place) (p n k : ℕ) → c ≡ at_inside p n k → IsLater c
inside_later c p n k is q e = absurd (none-some k (ap (λ (d : Place). d.inside) (sym e ∙ is)))

-- at which a document arrives
pub arrives_later : (g : Grammar) (w : List ℕ) (j : ℕ) (c : Place) (k : ℕ) (d : Place) → Arrives g w j c k d → IsLater d
arrives_later g w j c k d (inl (e, x, at, a, has, m, goes, is)) = inside_later d c.rule c.dot m is
arrives_later g w j c k d (inr (f, out, item, reads, is)) = next_later d c is

-- an item of a later place is at no beginning of a rule
pub later_item : (g : Grammar) (P : Place → ℕ → Type 0) → ((c : Place) (i : ℕ) → P c i → IsLater c) → (item : Item) (q : ℕ) → IsOf g P item → IsNumber g item.state (at_dot q 0) → ⊥
later_item g P later item q (c, at, p) num = later c item.origin p q (one_place g item.state c (at_dot q 0) at num)

-- MARKS

-- no nonterminal is marked, and no rule is begun
pub called_none : (g : Grammar) (at : ℕ) (sets : List (List Item)) (called : List Bool) → ((k : ℕ) → slice_index_or called k false ≡ false) → ((item : Item) (q : ℕ) → Contains (set_at sets at) item → IsNumber g item.state (at_dot q 0) → ⊥) → AreCalled g at sets called
called_none g at sets called none never = record {
  begun = λ non q e rule. absurd (false≢true (sym (none non) ∙ e));
  only = λ item q h num. absurd (never item q h num);
}

-- marks stay right while the set gets items of later places
pub called_kept : (g : Grammar) (at : ℕ) (P : Place → ℕ → Type 0) (a b : List (List Item)) (called : List Bool) → ((c : Place) (i : ℕ) → P c i → IsLater c) → Adds g at P a b → AreCalled g at a called → AreCalled g at b called
called_kept g at P a b called later adds known = record {
  begun = λ non q e rule. has_place_more g a b at (at_dot q 0) at (puts_kept at (IsOf g P) a b adds.puts at) (known.begun non q e rule);
  only = λ item q h num. elim (Contains-append_cases (set_at a at) adds.puts.more item (subst (λ (l : List Item). Contains l item) adds.puts.last h)) [
    | inl old ↦ known.only item q old num
    | inr new ↦ absurd (later_item g P later item q (adds.puts.each item new) num)
  ];
}

-- a nonterminal that is marked has its rules begun
pub calls_none : (g : Grammar) (at non : ℕ) (sets : List (List Item)) (called : List Bool) → AreCalled g at sets called → slice_index_or called non false ≡ true → Adds g at (Calls g at non) sets sets
calls_none g at non sets called known e = record {
  puts = puts_none at (IsOf g (Calls g at non)) sets;
  there = λ c i h. subst (λ d. HasPlace g sets at d i) (sym h.2.0) (subst (λ o. HasPlace g sets at (at_dot h.0 0) o) (sym h.2.1) (known.begun non h.0 e h.1));
}

-- and one that is not marked has none of them
pub starts_absent : (g : Grammar) (at non : ℕ) (sets : List (List Item)) (called : List Bool) → AreCalled g at sets called → slice_index_or called non false ≡ false → (origin state : ℕ) → IsStart g non state → Contains (set_at sets at) (item_from origin state) → ⊥
starts_absent g at non sets called known e origin state start h =
    false≢true (sym e ∙ ap (λ n. slice_index_or called n false) (sym start.1.1) ∙ known.only (item_from origin state) start.0 h start.2)

-- the items of the states in which its rules begin are put last
pub calls_made : (g : Grammar) (at non : ℕ) (states : List ℕ) (old new : Charted) → ((state : ℕ) → Contains states state ↔ IsStart g non state) → length old.sets ≡ suc at → new ≡ with_items old (items_from at states) → Adds g at (Calls g at non) old.sets new.sets
calls_made g at non states old new all last is = record {
  puts = puts_weaker at (Contains (items_from at states)) (IsOf g (Calls g at non)) old.sets new.sets each (appended_puts old new at (items_from at states) last is);
  there = there;
}
  where
    each : (item : Item) → Contains (items_from at states) item → IsOf g (Calls g at non) item
    each item h =
        let x = state_of at states item h in
        let start = (all x.0).0 x.1 in
        (at_dot start.0 0, subst (λ (y : Item). IsNumber g y.state (at_dot start.0 0)) (sym x.2) start.2, (start.0, start.1, (refl, ap (λ (y : Item). y.origin) x.2)))

    there : (c : Place) (i : ℕ) → Calls g at non c i → HasPlace g new.sets at c i
    there c i (q, rule, same) =
        let n = has_number g (at_dot q 0) (first_place g q rule.0) in
        let here = appended_there old new at (items_from at states) last is (item_from at n.0) (item_of at states n.0 ((all n.0).1 (q, rule, n.1))) in
        subst (λ d. HasPlace g new.sets at d i) (sym same.0) (subst (λ o. HasPlace g new.sets at (at_dot q 0) o) (sym same.1) (n.0, n.1, here))

-- and then it is marked
pub called_more : (g : Grammar) (at non : ℕ) (a b : List (List Item)) (called : List Bool) → non < length called → Adds g at (Calls g at non) a b → AreCalled g at a called → AreCalled g at b (set called non true)
called_more g at non a b called lt adds known = record {
  begun = λ m q e rule. elim (cases_eq m non) [
    | inl same ↦ adds.there (at_dot q 0) at (q, subst (λ n. IsRuleOf g n q) same rule, (refl, refl))
    | inr other ↦ has_place_more g a b at (at_dot q 0) at (puts_kept at (IsOf g (Calls g at non)) a b adds.puts at) (known.begun m q (sym (get_or-set_other called non m true false other) ∙ e) rule)
  ];
  only = λ item q h num. elim (Contains-append_cases (set_at a at) adds.puts.more item (subst (λ (l : List Item). Contains l item) adds.puts.last h)) [
    | inl old ↦ marked (rule_of g q).non (known.only item q old num)
    | inr new ↦ own (rule_of g q).non (called_rule item q (adds.puts.each item new) num)
  ];
}
  where
    own : (m : ℕ) → m ≡ non → get_or (set called non true) m false ≡ true
    own m e = ap (λ n. get_or (set called non true) n false) e ∙ get_or-set_same called non true false lt

    marked : (m : ℕ) → get_or called m false ≡ true → get_or (set called non true) m false ≡ true
    marked m e = elim (cases_eq m non) [ inl same ↦ own m same | inr other ↦ get_or-set_other called non m true false other ∙ e ]

    called_rule : (item : Item) (q : ℕ) → IsOf g (Calls g at non) item → IsNumber g item.state (at_dot q 0) → (rule_of g q).non ≡ non
    called_rule item q (c, at_c, (p, rule, same)) num =
        let one : q ≡ p = ap (λ (d : Place). d.rule) (one_place g item.state (at_dot q 0) c num at_c ∙ same.0) in
        ap (λ n. (rule_of g n).non) one ∙ rule.1
