-- The trees of a forest's rows, in their order.
use Rattle.std.proofs.Common.{◌≡◌, ◌≢◌, ◌⊎◌, inl, inr, ℕ, zero, suc, ◌+◌, ◌<◌, ◌≤◌, List, [], ◌∷◌, ◌++◌, length, refl, sym, subst, ◌∙◌, ap, arith, Some, None, slice_get, get_or, set, replicate, All, map}
use Rattle.std.specs.declared.option.Option.{Option}
use Rattle.std.proofs.lemmas.Bool.{cases_lt}
use Rattle.std.proofs.lemmas.Option.{same_Some, slice_get_within}
use Rattle.xs_forest.specs.declared.row.Alt.{Alt}
use Rattle.xs_forest.specs.Rows.{Rows, HasLabel, AreBelow, AreEarlier, AreOnce, IsEarlier}
use Rattle.xs_gram.specs.declared.parts.GItem.{GItem}
use Rattle.xs_gram.specs.declared.parts.GItem.TheVariants.{Non}
use Rattle.xs_gram.specs.Grammar.{Grammar, items, ItemAt}
use Rattle.xs_gram.specs.Common.{Common, made, word, of_non, of_term}
use Rattle.xs_gram.specs.Sound.{IsSound}
use Rattle.xs_tree.specs.Flat.{kids_at}
use Rattle.xs_cover.specs.declared.pick.Pick.{Pick}
use Rattle.xs_cover.specs.declared.pick.Pick.TheVariants.{Whole, Front}
use Rattle.xs_cover.specs.Costs.{rule_cost}
use Rattle.xs_cover.specs.Leaves.{AreLeaves}
use Rattle.xs_cover.specs.Prices.{costs_in, AreKids, HaveTrees, Stands}
use Rattle.xs_cover.specs.Picks.{IsRowOf, IsLeft, IsRight, IsWhole, IsFront, HaveRows}
use Rattle.xs_cover.specs.Reading.{IsReadTo}
use Rattle.xs_cover.specs.Sizes.{own_length}
use Rattle.xs_cover.specs.Tables.{at}
use Rattle.xs_cover.proofs.Counting.{at_replicate}
use Rattle.xs_cover.proofs.Knowing.{slots_kept}
use Rattle.xs_cover.proofs.Starting.{have_start}
use Rattle.xs_cover.proofs.Making.{leaves_stand}
use Rattle.xs_cover.proofs.Showing.{have_more, kids_there}
use Rattle.xs_cover.proofs.Ways.{at_set}

module _ (g h : Grammar) (terms nons : List ℕ) (rows : Rows Pick) (have : HaveRows g h terms nons rows) (below : AreBelow rows) where
  -- a child's row stands before
  left_before : (k : ℕ) (label : Pick) (alts : List Alt) (rule : ℕ) (left right : Option ℕ) → slice_get rows k ≡ Some (label, alts) → alts ≡ record { rule = rule; left = left; right = right } ∷ [] → IsEarlier left k
  left_before k label alts rule left right e is = (subst (λ a. AreEarlier a k) is (below k label alts e)).0

  right_before : (k : ℕ) (label : Pick) (alts : List Alt) (rule : ℕ) (left right : Option ℕ) → slice_get rows k ≡ Some (label, alts) → alts ≡ record { rule = rule; left = left; right = right } ∷ [] → IsEarlier right k
  right_before k label alts rule left right e is = (subst (λ a. AreEarlier a k) is (below k label alts e)).1

  -- a row of the nonterminal stands before a place
  abbrev StandsBefore : ℕ → ℕ → Type 0
  StandsBefore k n = (j : ℕ) × (j < k) × HasLabel rows j (Whole n)

  of_right : (k : ℕ) (item : GItem) (right : Option ℕ) (n s : ℕ) → item ≡ Non n s → IsRight rows item right → IsEarlier right k → StandsBefore k n
  of_right k item right n s is row earlier =
      let found : IsRowOf rows (Whole n) right = subst (λ i. IsRight rows i right) is row in
      (found.0, subst (λ o. IsEarlier o k) found.2 earlier, found.1)

  front_items : (fuel k rule dot : ℕ) → k < fuel → HasLabel rows k (Front rule dot) → (i n s : ℕ) → i < dot → ItemAt g rule i (Non n s) → StandsBefore k n
  front_items zero k rule dot less has i n s before item = absurd (omega (arith, less))
  front_items (suc fuel) k rule dot less has i n s before item =
      let is : IsFront g rows rule dot has.0 = have.picks k (Front rule dot) has.0 has.1 in
      elim (cases_lt i is.before) [
        | inl earlier ↦ by is (left_before k (Front rule dot) has.0 rule is.left is.right has.1 is.alts_are) is.is_left earlier (λ j lower other. front_items fuel j rule is.before (omega (arith, lower, less)) other i n s earlier item)
        | inr here ↦
            let same : i ≡ is.before = omega (arith, here, before, is.dot_is) in
            let last : is.item ≡ Non n s = same_Some is.item (Non n s) (sym is.item_is ∙ ap (λ j. slice_get (items g rule) j) (sym same) ∙ item) in
            of_right k is.item is.right n s last is.is_right (right_before k (Front rule dot) has.0 rule is.left is.right has.1 is.alts_are)
      ]
    where
      by : (is : IsFront g rows rule dot has.0) → IsEarlier is.left k → IsLeft rows rule is.before is.left → i < is.before → ((j : ℕ) → j < k → HasLabel rows j (Front rule is.before) → StandsBefore j n) → StandsBefore k n
      by is earlier (inl none) lt rest = absurd (omega (arith, lt, none.0))
      by is earlier (inr some) lt rest =
          let lower : some.1.0 < k = subst (λ o. IsEarlier o k) some.1.2 earlier in
          let found = rest some.1.0 lower some.1.1 in
          (found.0, omega (arith, found.1, lower), found.2)

  -- the rows of a rule's nonterminals stand before the row that is by the rule
  pub whole_items : (k n : ℕ) (alts : List Alt) → slice_get rows k ≡ Some (Whole n, alts) → (is : IsWhole g h terms nons rows n alts) → (i m s : ℕ) → ItemAt g is.rule i (Non m s) → (j : ℕ) × (j < k) × HasLabel rows j (Whole m)
  whole_items k n alts e is i m s item = by (left_before k (Whole n) alts is.rule is.left None e is.alts_are) is.is_left
    where
      within : i < length (items g is.rule)
      within = slice_get_within (items g is.rule) i (Non m s) item

      by : IsEarlier is.left k → IsLeft rows is.rule (length (items g is.rule)) is.left → (j : ℕ) × (j < k) × HasLabel rows j (Whole m)
      by earlier (inl none) = absurd (omega (arith, within, none.0))
      by earlier (inr some) =
          let lower : some.1.0 < k = subst (λ o. IsEarlier o k) some.1.2 earlier in
          let found = front_items (suc some.1.0) some.1.0 is.rule (length (items g is.rule)) (omega arith) some.1.1 i m s within item in
          (found.0, omega (arith, found.1, lower), found.2)

-- no row is read
pub read_first : (g h : Grammar) (terms nons : List ℕ) (words : List (List ℕ)) (rows : Rows Pick) (trees : List Common) (numbers : List ℕ) → IsSound g → AreLeaves g words terms → trees ≡ map word words → numbers ≡ replicate g.nons 0 → IsReadTo g h terms nons rows trees numbers 0
read_first g h terms nons words rows trees numbers sound leaves trees_are none = record {
  costs = replicate g.nons 1000000000;
  have = have_start g h trees terms (replicate g.nons 1000000000) numbers leaves.costs_counted refl none (λ t there. subst (λ ts. Stands g h ts (of_term t) (at terms t) t) (sym trees_are) (leaves_stand g h words terms t sound leaves there));
  before = λ n there known. absurd (omega (arith, known, at_replicate g.nons 1000000000 n there));
  same = λ k n lower has. absurd (omega (arith, lower));
}

module _ (g h : Grammar) (terms nons : List ℕ) (rows : Rows Pick) (sound : IsSound g) (have : HaveRows g h terms nons rows) (below : AreBelow rows) (once : AreOnce rows) (trees : List Common) (numbers : List ℕ) (place : ℕ) (known : IsReadTo g h terms nons rows trees numbers place) where
  -- a front is passed over
  pub read_front : (rule dot : ℕ) → HasLabel rows place (Front rule dot) → IsReadTo g h terms nons rows trees numbers (place + 1)
  read_front rule dot has = record {
    costs = known.costs;
    have = known.have;
    before = λ n there less. let found = known.before n there less in (found.0, omega (arith, found.1), found.2);
    same = λ k n lower label. elim (cases_lt k place) [
      | inl earlier ↦ known.same k n earlier label
      | inr here ↦
          let same : place ≡ k = omega (arith, here, lower) in
          absurd (no_front (Front rule dot, has.0) (Whole n, label.0) rule dot n (sym has.1 ∙ ap (λ j. slice_get rows j) same ∙ label.1) refl refl)
    ];
  }
    where
      apart : (r d n : ℕ) → Front r d ≡ Whole n → ⊥
      apart r d n e = cc

      no_front : (p q : Pick × List Alt) (r d n : ℕ) → Some p ≡ Some q → p.0 ≡ Front r d → q.0 ≡ Whole n → ⊥
      no_front p q r d n e is_p is_q = apart r d n (sym is_p ∙ ap (λ (x : Pick × List Alt). x.0) (same_Some p q e) ∙ is_q)

  -- the nonterminal of a row has its tree next
  module _ (n : ℕ) (alts : List Alt) (at_place : slice_get rows place ≡ Some (Whole n, alts)) (is : IsWhole g h terms nons rows n alts) (kids : List ℕ) (placed : AreKids numbers (items g is.rule) kids) where
    same_item : (i m s : ℕ) → ItemAt g is.rule i (Non m s) → at known.costs m ≡ at nons m
    same_item i m s item =
        let found = whole_items g h terms nons rows have below place n alts at_place is i m s item in
        known.same found.0 m found.1 found.2

    cost_is : rule_cost g h (costs_in terms known.costs []) is.rule ≡ at nons n
    cost_is = ap (λ c. own_length g h is.rule + c) (slots_kept terms nons known.costs (items g is.rule) same_item) ∙ is.cost

    unread : at known.costs n ≡ 1000000000
    unread = elim (cases_lt (at known.costs n) 1000000000) [
      | inl less ↦
          let found = known.before n in_g less in
          absurd (omega (arith, found.1, once found.0 place (Whole n) found.2 (alts, at_place)))
      | inr most ↦ omega (arith, most, known.have.low n)
    ]
      where
        in_g : n < g.nons
        in_g = subst (λ m. m < g.nons) is.of (sound.built.range.rules is.rule is.there)

    node_cheap : rule_cost g h (costs_in terms known.costs []) is.rule < 1000000000
    node_cheap = omega (arith, cost_is, is.known)

    pub read_kids : All (λ k. k < length trees) kids
    read_kids = kids_there g h terms known.costs numbers trees sound known.have is.rule node_cheap kids placed

    in_costs : n < length known.costs
    in_costs = omega (arith, sound.built.range.rules is.rule is.there, is.of, known.have.nons_counted)

    at_costs : (m : ℕ) → ((m ≡ n) × (at (set known.costs n (at nons n)) m ≡ at nons n)) ⊎ ((m ≢ n) × (at (set known.costs n (at nons n)) m ≡ at known.costs m))
    at_costs m = at_set known.costs n m (at nons n) in_costs

    moved : HaveTrees g h (trees ++ made is.rule (kids_at trees kids) ∷ []) terms (set known.costs n (at nons n)) (set numbers n (length trees))
    moved =
        let more = have_more g h terms known.costs numbers trees is.rule (at nons n) kids sound known.have is.there placed (omega (arith, cost_is, is.known)) (omega (arith, is.known, unread, ap (at known.costs) is.of)) in
        subst (λ m. HaveTrees g h (trees ++ made is.rule (kids_at trees kids) ∷ []) terms (set known.costs m (at nons n)) (set numbers m (length trees))) is.of more

    same_now : (m : ℕ) → at known.costs m ≡ at nons m → at (set known.costs n (at nons n)) m ≡ at nons m
    same_now m e = elim (at_costs m) [ inl here ↦ here.1 ∙ ap (at nons) (sym here.0) | inr other ↦ other.1 ∙ e ]

    whole_here : (m : ℕ) (b : List Alt) → slice_get rows place ≡ Some (Whole m, b) → m ≡ n
    whole_here m b e = whole_of m n (ap (λ (q : Pick × List Alt). q.0) (same_Some (Whole m, b) (Whole n, alts) (sym e ∙ at_place)))
      where
        whole_of : (i j : ℕ) → Whole i ≡ Whole j → i ≡ j
        whole_of i j e = cc

    pub read_whole : (new : List Common) (number : ℕ) → new ≡ trees ++ made is.rule (kids_at trees kids) ∷ [] → number ≡ length trees → IsReadTo g h terms nons rows new (set numbers n number) (place + 1)
    read_whole new number new_is number_is = record {
      costs = set known.costs n (at nons n);
      have = subst (λ ts. HaveTrees g h ts terms (set known.costs n (at nons n)) (set numbers n number)) (sym new_is) (subst (λ k. HaveTrees g h (trees ++ made is.rule (kids_at trees kids) ∷ []) terms (set known.costs n (at nons n)) (set numbers n k)) (sym number_is) moved);
      before = λ m there less. elim (at_costs m) [
        | inl here ↦ (place, omega arith, subst (λ j. HasLabel rows place (Whole j)) (sym here.0) (alts, at_place))
        | inr other ↦ (let found = known.before m there (omega (arith, less, other.1)) in (found.0, omega (arith, found.1), found.2))
      ];
      same = λ k m lower label. elim (cases_lt k place) [
        | inl earlier ↦ same_now m (known.same k m earlier label)
        | inr here ↦
            let same_place : k ≡ place = omega (arith, here, lower) in
            let same_non : m ≡ n = whole_here m label.0 (ap (λ j. slice_get rows j) (sym same_place) ∙ label.1) in
            elim (at_costs m) [ inl is_n ↦ is_n.1 ∙ ap (at nons) (sym is_n.0) | inr other ↦ absurd (other.0 same_non) ]
      ];
    }

-- all rows are read
pub read_all : (g h : Grammar) (terms nons : List ℕ) (rows : Rows Pick) (trees : List Common) (numbers : List ℕ) (place : ℕ) (old_trees : List Common) (old : List ℕ) → HaveRows g h terms nons rows → HaveTrees g h old_trees terms nons old → length rows ≤ place → IsReadTo g h terms nons rows trees numbers place → HaveTrees g h trees terms nons numbers
read_all g h terms nons rows trees numbers place old_trees old rows_have have all known = record {
  terms_counted = have.terms_counted;
  nons_counted = have.nons_counted;
  numbers_counted = known.have.numbers_counted;
  low = have.low;
  leaves = known.have.leaves;
  nodes = λ n there less.
      let row = rows_have.wholes n there less in
      let same : at known.costs n ≡ at nons n = known.same row.0 n (omega (arith, all, slice_get_within rows row.0 (Whole n, row.1.0) row.1.1)) row.1 in
      subst (λ c. Stands g h trees (of_non n) c (at numbers n)) same (known.have.nodes n there (omega (arith, same, less)));
}

-- the rule of a row's one alternative
pub rule_read : (alts : List Alt) (rule : ℕ) (left right : Option ℕ) (d : Alt) → alts ≡ record { rule = rule; left = left; right = right } ∷ [] → (get_or alts 0 d).rule ≡ rule
rule_read alts rule left right d is = ap (λ l. (get_or l 0 d).rule) is
