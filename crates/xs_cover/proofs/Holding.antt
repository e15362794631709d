-- A forest of least trees while it is made, from row to row.
use Rattle.std.proofs.Common.{◌≡◌, ◌⊎◌, inl, inr, ℕ, zero, suc, ◌+◌, ◌-◌, ◌<◌, ◌≤◌, List, [], ◌∷◌, ◌++◌, length, refl, sym, subst, ◌∙◌, ap, arith, Some, None, slice_get, set, Contains, false, IfSome}
use Rattle.std.specs.declared.option.Option.{Option}
use Rattle.std.specs.declared.cmp.Ordering.{Ordering}
use Rattle.std.specs.declared.cmp.Ordering.TheVariants.{Less, Equal, Greater}
use Rattle.std.specs.Ordering.{nat_cmp, ordering_then, is_lt}
use Rattle.std.specs.BinaryHeap.{IsHeap, IsUpperBound, PopsGreatest}
use Rattle.std.specs.List.Sorted.{IsPermutation}
use Rattle.std.proofs.lemmas.Bool.{cases_lt}
use Rattle.std.proofs.lemmas.Bool.Decides.{eqb_tells}
use Rattle.std.proofs.lemmas.List.{get_or-set_same, get_or-set_other}
use Rattle.std.proofs.lemmas.List.Elements.{Contains-append_cases, Contains-append_right, All-contains, All-from_recursion}
use Rattle.std.proofs.lemmas.List.Sorted.{Contains-permutation, IsPermutation-sym}
use Rattle.std.proofs.lemmas.Map.Keys.{ge_from_not_lt}
use Rattle.std.proofs.lemmas.Option.{same_Some, slice_get_within}
use Rattle.std.proofs.Math.ListN.{length-set}
use Rattle.xs_forest.specs.declared.row.Alt.{Alt}
use Rattle.xs_forest.specs.Rows.{Rows}
use Rattle.xs_gram.specs.declared.parts.GItem.{GItem}
use Rattle.xs_gram.specs.declared.parts.GItem.TheVariants.{Non}
use Rattle.xs_gram.specs.Grammar.{Grammar, rule_of, items, ItemAt}
use Rattle.xs_gram.specs.Sound.{IsSound}
use Rattle.xs_cover.specs.declared.pick.Pick.{Pick}
use Rattle.xs_cover.specs.declared.pick.Pick.TheVariants.{Whole, Front}
use Rattle.xs_cover.specs.declared.picks.Waiter.{Waiter}
use Rattle.xs_cover.specs.Costs.{rule_cost}
use Rattle.xs_cover.specs.Sizes.{capped}
use Rattle.xs_cover.specs.Prices.{costs_in}
use Rattle.xs_cover.specs.Picks.{HasRow, IsLeft, IsRight, HaveRows, HasPassed, IsWaiter, IsReady, waiters_at, by_left, Holds, IsSet, IsKnownItem, IsAdded, IsNext}
use Rattle.xs_cover.specs.Tables.{at}
use Rattle.xs_cover.proofs.Growing.{get_on, get_last, get_new, HaveStayed, has_on, picks_added, added_stays, added_there, passed_on}
use Rattle.xs_cover.proofs.Knowing.{KeepsKnown, rule_kept, items_known}

-- one element, and others
only : {X : Type 0} (e x : X) → Contains (e ∷ []) x → x ≡ e
only e x (zero, less, is) = sym is
only e x (suc k, less, is) = absurd (omega (arith, less))

first_or : {X : Type 0} (e x : X) (xs : List X) → Contains (e ∷ xs) x → (x ≡ e) ⊎ Contains xs x
first_or e x xs has = elim (Contains-append_cases (e ∷ []) xs x has) [ inl one ↦ inl (only e x one) | inr rest ↦ inr rest ]

first_in : {X : Type 0} (e : X) (xs : List X) → Contains (e ∷ xs) e
first_in e xs = (0, omega arith, refl)

module _ (g h : Grammar) (terms : List ℕ) where
  pub waiter_on : (nons more : List ℕ) (old new : Rows Pick) (n : ℕ) (w : Waiter) → KeepsKnown nons more → HaveStayed old new → IsWaiter g nons old n w → IsWaiter g more new n w
  waiter_on nons more old new n w kept stayed is = record { there = is.there; slot = is.slot; item = is.item; past = passed_on g nons more old new w.rule w.dot kept stayed is.past }

  pub ready_on : (nons more : List ℕ) (old new : Rows Pick) (e : ℕ × ℕ) → KeepsKnown nons more → HaveStayed old new → ((n : ℕ) → n < g.nons → at more n < 1000000000 → at more n + e.0 ≤ 1000000000) → IsReady g h terms nons old e → IsReady g h terms more new e
  ready_on nons more old new e kept stayed dearest is = record {
    there = is.there;
    cost = omega (arith, is.cost, rule_kept g h terms nons more e.1 kept (λ n m s item. items_known g h terms nons e.1 n m s (omega (arith, is.cost, is.some)) item));
    some = is.some;
    dearest = dearest;
    past = passed_on g nons more old new e.1 (length (items g e.1)) kept stayed is.past;
  }

  module _ (nons : List ℕ) (rows : Rows Pick) (waits : List (List Waiter)) (ready : List (ℕ × ℕ)) (holds : Holds g h terms nons rows waits ready) where
    -- more rows
    pub holds_rows : (new : Rows Pick) → HaveStayed rows new → HaveRows g h terms nons new → Holds g h terms nons new waits ready
    holds_rows new stayed have = record {
      counted = holds.counted;
      some = holds.some;
      have = have;
      waiters = λ n k w e. waiter_on nons nons rows new n w (λ m known. refl) stayed (holds.waiters n k w e);
      entries = λ e in_heap. let is = holds.entries e in_heap in ready_on nons nons rows new e (λ m known. refl) stayed is.dearest is;
      ordered = holds.ordered;
    }

    pub holds_front : (rule dot : ℕ) (item : GItem) (left right : Option ℕ) (new : Rows Pick) → ItemAt g rule dot item → IsLeft rows rule dot left → IsRight rows item right → IsAdded rows (Front rule (dot + 1)) (record { rule = rule; left = left; right = right }) new → Holds g h terms nons new waits ready
    holds_front rule dot item left right new item_is is_left is_right added =
        let alt : Alt = record { rule = rule; left = left; right = right } in
        let stayed = added_stays rows new (Front rule (dot + 1)) alt added in
        holds_rows new stayed (record {
          picks = picks_added g h terms nons rows new (Front rule (dot + 1)) alt added holds.have.picks (record {
            before = dot;
            item = item;
            left = left;
            right = right;
            dot_is = refl;
            item_is = item_is;
            alts_are = refl;
            is_left = is_left;
            is_right = is_right;
          });
          wholes = λ n in_g known. has_on rows new (Whole n) stayed (holds.have.wholes n in_g known);
        })

    -- one more rule waits
    pub holds_waits : (n : ℕ) (w : Waiter) (new : List (List Waiter)) → n < g.nons → IsWaiter g nons rows n w → new ≡ set waits n (waiters_at waits n ++ w ∷ []) → Holds g h terms nons rows new ready
    holds_waits n w new there is new_is = record {
      counted = ap length new_is ∙ length-set waits n (waiters_at waits n ++ w ∷ []) ∙ holds.counted;
      some = holds.some;
      have = holds.have;
      waiters = λ m k v e. waiters m k v (ap (λ l. slice_get (waiters_at l m) k) (sym new_is) ∙ e);
      entries = holds.entries;
      ordered = holds.ordered;
    }
      where
        in_waits : n < length waits
        in_waits = omega (arith, there, holds.counted)

        waiters : (m k : ℕ) (v : Waiter) → slice_get (waiters_at (set waits n (waiters_at waits n ++ w ∷ [])) m) k ≡ Some v → IsWaiter g nons rows m v
        waiters m k v e = elim (eqb_tells m n) [
          | inl (one, same) ↦
              let row : waiters_at (set waits n (waiters_at waits n ++ w ∷ [])) m ≡ waiters_at waits n ++ w ∷ [] = ap (λ j. waiters_at (set waits n (waiters_at waits n ++ w ∷ [])) j) same ∙ get_or-set_same waits n (waiters_at waits n ++ w ∷ []) [] in_waits in
              elim (get_new (waiters_at waits n) w k v (ap (λ l. slice_get l k) (sym row) ∙ e)) [
                | inl before ↦ subst (λ j. IsWaiter g nons rows j v) (sym same) (holds.waiters n k v before)
                | inr here ↦ subst (λ j. IsWaiter g nons rows j v) (sym same) (subst (λ x. IsWaiter g nons rows n x) here is)
              ]
          | inr (two, ne) ↦ holds.waiters m k v (ap (λ l. slice_get l k) (sym (get_or-set_other waits n m (waiters_at waits n ++ w ∷ []) [] ne)) ∙ e)
        ]

    -- one more rule is ready, or one less
    pub holds_ready : (e : ℕ × ℕ) (new : List (ℕ × ℕ)) → IsReady g h terms nons rows e → IsPermutation (e ∷ ready) new → IsHeap by_left new → Holds g h terms nons rows waits new
    holds_ready e new is moved ordered = record {
      counted = holds.counted;
      some = holds.some;
      have = holds.have;
      waiters = holds.waiters;
      entries = λ x in_new. elim (first_or e x ready (Contains-permutation new (e ∷ ready) x (IsPermutation-sym (e ∷ ready) new moved) in_new)) [
        | inl here ↦ subst (λ y. IsReady g h terms nons rows y) (sym here) is
        | inr old ↦ holds.entries x old
      ];
      ordered = ordered;
    }

    pub holds_next : (e : ℕ × ℕ) (new : List (ℕ × ℕ)) → IsNext ready e new → Holds g h terms nons rows waits new
    holds_next e new next = record {
      counted = holds.counted;
      some = holds.some;
      have = holds.have;
      waiters = holds.waiters;
      entries = λ x in_new. holds.entries x (next.kept x in_new);
      ordered = next.ordered;
    }

-- one more row was passed
pub passed_front : (g : Grammar) (nons : List ℕ) (old new : Rows Pick) (rule dot : ℕ) (item : GItem) (alt : Alt) → HasPassed g nons old rule dot → ItemAt g rule dot item → IsKnownItem nons item → IsAdded old (Front rule (dot + 1)) alt new → HasPassed g nons new rule (dot + 1)
passed_front g nons old new rule dot item alt past item_is known added = record {
  within = omega (arith, slice_get_within (items g rule) dot item item_is);
  known = λ n m s before at_n. elim (cases_lt n dot) [
    | inl earlier ↦ past.known n m s earlier at_n
    | inr later ↦
        let here : n ≡ dot = omega (arith, later, before) in
        let is : item ≡ Non m s = same_Some item (Non m s) (sym item_is ∙ ap (λ k. slice_get (items g rule) k) (sym here) ∙ at_n) in
        known_at m s is
  ];
  front = λ some. added_there old new (Front rule (dot + 1)) alt added;
}
  where
    known_at : (m s : ℕ) → item ≡ Non m s → at nons m < 1000000000
    known_at m s is = subst (λ i. IsKnownItem nons i) is known

-- a known nonterminal has a row
pub item_has_row : (g h : Grammar) (terms nons : List ℕ) (rows : Rows Pick) (rule dot n s : ℕ) (item : GItem) → HaveRows g h terms nons rows → IsSound g → ItemAt g rule dot item → IsKnownItem nons item → item ≡ Non n s → HasRow rows (Whole n)
item_has_row g h terms nons rows rule dot n s item have sound item_is known is =
    have.wholes n (sound.built.range.nons rule dot n s (item_is ∙ ap (λ i. Some i) is)) (subst (λ i. IsKnownItem nons i) is known)

-- the lists of rules that wait go on
pub waits_on : (waits new : List (List Waiter)) (n : ℕ) (w : Waiter) → n < length waits → new ≡ set waits n (waiters_at waits n ++ w ∷ []) → (m k : ℕ) (v : Waiter) → slice_get (waiters_at waits m) k ≡ Some v → slice_get (waiters_at new m) k ≡ Some v
waits_on waits new n w there new_is m k v e = ap (λ l. slice_get (waiters_at l m) k) new_is ∙ elim (eqb_tells m n) as (λ _. slice_get (waiters_at (set waits n (waiters_at waits n ++ w ∷ [])) m) k ≡ Some v) [
  | inl (one, same) ↦
      let row : waiters_at (set waits n (waiters_at waits n ++ w ∷ [])) m ≡ waiters_at waits n ++ w ∷ [] = ap (λ j. waiters_at (set waits n (waiters_at waits n ++ w ∷ [])) j) same ∙ get_or-set_same waits n (waiters_at waits n ++ w ∷ []) [] there in
      ap (λ l. slice_get l k) row ∙ get_on (waiters_at waits n) (w ∷ []) k v (ap (λ j. slice_get (waiters_at waits j) k) (sym same) ∙ e)
  | inr (two, ne) ↦ ap (λ l. slice_get l k) (get_or-set_other waits n m (waiters_at waits n ++ w ∷ []) [] ne) ∙ e
]

pub waits_there : (waits new : List (List Waiter)) (n : ℕ) (w : Waiter) → n < length waits → new ≡ set waits n (waiters_at waits n ++ w ∷ []) → slice_get (waiters_at new n) (length (waiters_at waits n)) ≡ Some w
waits_there waits new n w there new_is =
    let row : waiters_at new n ≡ waiters_at waits n ++ w ∷ [] = ap (λ l. waiters_at l n) new_is ∙ get_or-set_same waits n (waiters_at waits n ++ w ∷ []) [] there in
    ap (λ l. slice_get l (length (waiters_at waits n))) row ∙ get_last (waiters_at waits n) w

-- what is pushed joins the heap
pub ready_on_push : (ready new : List (ℕ × ℕ)) (e x : ℕ × ℕ) → IsPermutation (e ∷ ready) new → Contains ready x → Contains new x
ready_on_push ready new e x moved has = Contains-permutation (e ∷ ready) new x moved (Contains-append_right (e ∷ []) ready x has)

pub ready_pushed : (ready new : List (ℕ × ℕ)) (e : ℕ × ℕ) → IsPermutation (e ∷ ready) new → Contains new e
ready_pushed ready new e moved = Contains-permutation (e ∷ ready) new e moved (first_in e ready)

-- what comes first in a heap
then_lt : (a b : Ordering) → is_lt (ordering_then a b) ≡ false → is_lt a ≡ false
then_lt Less b e = e
then_lt Equal b e = refl
then_lt Greater b e = refl

pub is_next : (old new : List (ℕ × ℕ)) (e : ℕ × ℕ) → IsPermutation old (e ∷ new) → IsUpperBound by_left e new → IsHeap by_left new → IsNext old e new
is_next old new e moved bound ordered = record {
  there = Contains-permutation (e ∷ new) old e (IsPermutation-sym old (e ∷ new) moved) (first_in e new);
  others = λ x has. first_or e x new (Contains-permutation old (e ∷ new) x moved has);
  kept = λ x has. Contains-permutation (e ∷ new) old x (IsPermutation-sym old (e ∷ new) moved) (Contains-append_right (e ∷ []) new x has);
  greatest = λ x has. let not_less = All-contains (λ y. is_lt (by_left e y) ≡ false) new x (All-from_recursion (λ y. is_lt (by_left e y) ≡ false) new bound) has in
      ge_from_not_lt e.0 x.0 (then_lt (nat_cmp e.0 x.0) (nat_cmp e.1 x.1) not_less);
  ordered = ordered;
}

-- what is set stays so
pub set_on : (g h : Grammar) (terms nons : List ℕ) (waits more : List (List Waiter)) (ready new : List (ℕ × ℕ)) (rule : ℕ) → ((n k : ℕ) (w : Waiter) → slice_get (waiters_at waits n) k ≡ Some w → slice_get (waiters_at more n) k ≡ Some w) → ((e : ℕ × ℕ) → Contains ready e → Contains new e) → IsSet g h terms nons waits ready rule → IsSet g h terms nons more new rule
set_on g h terms nons waits more ready new rule grown joined (inl a) = inl (record {
  non = a.non;
  place = a.place;
  dot = a.dot;
  slot = a.slot;
  in_list = grown a.non a.place (record { rule = rule; dot = a.dot }) a.in_list;
  item = a.item;
  unknown = a.unknown;
})
set_on g h terms nons waits more ready new rule grown joined (inr c) = inr (record { known = c.known; closed = by c.closed })
  where
    by : (at nons (rule_of g rule).non ≤ rule_cost g h (costs_in terms nons []) rule) ⊎ ((left : ℕ) × Contains ready (left, rule)) → (at nons (rule_of g rule).non ≤ rule_cost g h (costs_in terms nons []) rule) ⊎ ((left : ℕ) × Contains new (left, rule))
    by (inl low) = inl low
    by (inr in_heap) = inr (in_heap.0, joined (in_heap.0, rule) in_heap.1)

-- a rule whose items are all passed
pub passed_all : (g : Grammar) (nons : List ℕ) (rows : Rows Pick) (rule : ℕ) → HasPassed g nons rows rule (length (items g rule)) → (n m s : ℕ) → ItemAt g rule n (Non m s) → at nons m < 1000000000
passed_all g nons rows rule past n m s item = past.known n m s (slice_get_within (items g rule) n (Non m s) item) item

module _ (g h : Grammar) (terms nons : List ℕ) (rows : Rows Pick) (rule cost : ℕ) (there : rule < length g.rules) (past : HasPassed g nons rows rule (length (items g rule))) (cost_is : cost ≡ capped (rule_cost g h (costs_in terms nons []) rule)) where
  pub is_ready : ((n : ℕ) → n < g.nons → at nons n < 1000000000 → at nons n ≤ rule_cost g h (costs_in terms nons []) rule) → cost < 1000000000 → IsReady g h terms nons rows (1000000000 - cost, rule)
  is_ready dear less = record {
    there = there;
    cost = omega (arith, cost_is, less);
    some = omega (arith, less);
    dearest = λ n in_g known. omega (arith, dear n in_g known, cost_is, less);
    past = past;
  }

  pub set_ready : (waits : List (List Waiter)) (ready : List (ℕ × ℕ)) (left : ℕ) → Contains ready (left, rule) → IsSet g h terms nons waits ready rule
  set_ready waits ready left has = inr (record { known = passed_all g nons rows rule past; closed = inr (left, has) })

  pub set_heavy : (waits : List (List Waiter)) (ready : List (ℕ × ℕ)) → at nons (rule_of g rule).non ≤ 1000000000 → 1000000000 ≤ cost → IsSet g h terms nons waits ready rule
  set_heavy waits ready low heavy = inr (record { known = passed_all g nons rows rule past; closed = inl (omega (arith, low, heavy, cost_is)) })

-- what a heap in order gives
pub next_of : (o : Option (ℕ × ℕ)) (old new : List (ℕ × ℕ)) → IsHeap by_left old → IfSome o (λ e. IsPermutation old (e ∷ new)) → IfSome o (λ e. PopsGreatest by_left old e new) → IfSome o (λ e. IsHeap by_left old → IsUpperBound by_left e new) → IfSome o (λ e. IsNext old e new)
next_of None old new ordered moved pops bound = tt
next_of (Some e) old new ordered moved pops bound = is_next old new e moved (bound ordered) (pops ordered).0

-- each rule is still set, but for one that came off the heap
pub set_next : (g h : Grammar) (terms nons : List ℕ) (waits : List (List Waiter)) (ready new : List (ℕ × ℕ)) (left rule r : ℕ) → IsNext ready (left, rule) new → IsSet g h terms nons waits ready r → IsSet g h terms nons waits new r ⊎ (r ≡ rule)
set_next g h terms nons waits ready new left rule r next (inl a) = inl (inl a)
set_next g h terms nons waits ready new left rule r next (inr c) = by c.closed
  where
    by : (at nons (rule_of g r).non ≤ rule_cost g h (costs_in terms nons []) r) ⊎ ((k : ℕ) × Contains ready (k, r)) → IsSet g h terms nons waits new r ⊎ (r ≡ rule)
    by (inl low) = inl (inr (record { known = c.known; closed = inl low }))
    by (inr in_heap) = elim (next.others (in_heap.0, r) in_heap.1) [
      | inl here ↦ inr (ap (λ (e : ℕ × ℕ). e.1) here)
      | inr other ↦ inl (inr (record { known = c.known; closed = inr (in_heap.0, other) }))
    ]
