-- Clauses of rules, one after another.
use Rattle.std.proofs.Common.{◌≡◌, ℕ, ◌+◌, ◌<◌, true, false, List, [], ◌∷◌, ◌++◌, length, zero, suc, slice_get, Some, get_or, take, refl, sym, ap, subst, ◌∙◌, inl, inr, arith}
use Rattle.std.specs.List.{Contains}
use Rattle.std.proofs.lemmas.Bool.{cases_lt, both_ways}
use Rattle.std.proofs.lemmas.List.{take_more}
use Rattle.std.proofs.lemmas.List.Elements.{Contains-get_or, Contains-append_left, Contains-push, Contains-push_cases}
use Rattle.xs_clauses.specs.declared.clause.Clause.{Clause}
use Rattle.xs_gram.specs.declared.parts.GItem.{GItem}
use Rattle.xs_gram.specs.declared.parts.GItem.TheVariants.{Fixed, Term, Non, Skip}
use Rattle.xs_clauses.specs.Made.{IsBelow, AreBelow}
use Rattle.xs_gram.specs.Grammar.{Grammar, items}
use Rattle.xs_gram.specs.Sound.{IsInRange}
use Rattle.xs_order.specs.declared.leaves.Leaves.{Leaves}
use Rattle.xs_order.specs.Leaves.{all_good}
use Rattle.xs_order.specs.Rules.{nons_of, clause_at, IsGoodRule, AreClauses}

pub clauses_none : (g : Grammar) (l : Leaves) → AreClauses g l 0 []
clauses_none g l = record {
  there = λ p good. absurd (omega (arith, good.rule));
  only = λ c h. absurd (omega (arith, h.1));
}

later : (g : Grammar) (l : Leaves) (k p : ℕ) → IsGoodRule g l k p → IsGoodRule g l (k + 1) p
later g l k p good = record { rule = omega (arith, good.rule); good = good.good }

-- a rule with an item that is not good has no clause
pub clauses_same : (g : Grammar) (l : Leaves) (k : ℕ) (clauses : List Clause) → all_good l (items g k) ≡ false → AreClauses g l k clauses → AreClauses g l (k + 1) clauses
clauses_same g l k clauses bad are = record {
  there = λ p good. elim (cases_lt p k) [
    | inl before ↦ are.there p (record { rule = before; good = good.good })
    | inr after ↦
        let here : p ≡ k = omega (arith, good.rule) in
        absurd (both_ways _ bad (subst (λ (j : ℕ). all_good l (items g j) ≡ true) here good.good))
  ];
  only = λ c h. let rule = are.only c h in (rule.0, later g l k rule.0 rule.1, rule.2);
}

pub clauses_more : (g : Grammar) (l : Leaves) (k : ℕ) (clauses : List Clause) (c : Clause) → all_good l (items g k) ≡ true → c ≡ clause_at g k → AreClauses g l k clauses → AreClauses g l (k + 1) (clauses ++ c ∷ [])
clauses_more g l k clauses c good is are = record {
  there = λ p rule. elim (cases_lt p k) [
    | inl before ↦ Contains-append_left clauses (c ∷ []) (clause_at g p) (are.there p (record { rule = before; good = rule.good }))
    | inr after ↦
        let here : p ≡ k = omega (arith, rule.rule) in
        rw (here, ← is) (Contains-push clauses c)
  ];
  only = λ d h. elim (Contains-push_cases clauses c d h) [
    | inl before ↦ let rule = are.only d before in (rule.0, later g l k rule.0 rule.1, rule.2)
    | inr e ↦ (k, record { rule = omega arith; good = good }, sym e ∙ is)
  ];
}

-- the nonterminals of items stand among them
pub nons_append : (is js : List GItem) → nons_of (is ++ js) ≡ nons_of is ++ nons_of js
nons_append [] js = refl
nons_append (Fixed f ∷ is) js = nons_append is js
nons_append (Term t s ∷ is) js = nons_append is js
nons_append (Non n s ∷ is) js = ap (λ (ns : List ℕ). n ∷ ns) (nons_append is js)
nons_append (Skip k ∷ is) js = nons_append is js

pub nons_more : (items : List GItem) (i : ℕ) (item : GItem) (nons more : List ℕ) → i < length items → item ≡ get_or items i item → nons ≡ nons_of (take i items) → more ≡ nons ++ nons_of (item ∷ []) → more ≡ nons_of (take (i + 1) items)
nons_more items i item nons more l is e f =
    f ∙ ap (λ (ns : List ℕ). ns ++ nons_of (item ∷ [])) e ∙ sym (nons_append (take i items) (item ∷ [])) ∙ ap nons_of (ap (λ (x : GItem). take i items ++ x ∷ []) is ∙ sym (take_more items i item l))

-- each of them is the nonterminal of an item
pub non_there : (is : List GItem) (m : ℕ) → Contains (nons_of is) m → (k : ℕ) × (s : ℕ) × (slice_get is k ≡ Some (Non m s))
non_there [] m h = absurd (omega (arith, h.1))
non_there (Fixed f ∷ is) m h = let rest = non_there is m h in (suc rest.0, rest.1, rest.2)
non_there (Term t s ∷ is) m h = let rest = non_there is m h in (suc rest.0, rest.1, rest.2)
non_there (Skip k ∷ is) m h = let rest = non_there is m h in (suc rest.0, rest.1, rest.2)
non_there (Non n s ∷ is) m (zero, l, e) = (zero, s, ap (λ (x : ℕ). Some (Non x s)) e)
non_there (Non n s ∷ is) m (suc k, l, e) = let rest = non_there is m (k, omega arith, e) in (suc rest.0, rest.1, rest.2)

-- all numbers of the clauses are nonterminals
pub clauses_below : (g : Grammar) (l : Leaves) (clauses : List Clause) → IsInRange g → AreClauses g l (length g.rules) clauses → AreBelow g.nons clauses
clauses_below g l clauses range are k d lt =
    let rule = are.only (get_or clauses k d) (Contains-get_or clauses k d lt) in
    subst (IsBelow g.nons) (sym rule.2) (record {
      head = range.rules rule.0 rule.1.rule;
      premises = λ j e h. let at = non_there (items g rule.0) (get_or (nons_of (items g rule.0)) j e) (Contains-get_or (nons_of (items g rule.0)) j e h) in range.nons rule.0 at.0 (get_or (nons_of (items g rule.0)) j e) at.1 at.2;
    })
