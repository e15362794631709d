-- The row of a nonterminal at its final cost, and the rules that waited for it.
use Rattle.std.proofs.Common.{◌≡◌, ◌≢◌, ◌⊎◌, inl, inr, ℕ, suc, ◌+◌, ◌<◌, ◌≤◌, List, [], ◌∷◌, ◌++◌, length, refl, sym, subst, ◌∙◌, ap, arith, Some, None, slice_get, set, replicate, Contains, map}
use Rattle.std.specs.declared.option.Option.{Option}
use Rattle.std.specs.BinaryHeap.{IsHeap}
use Rattle.std.proofs.lemmas.Bool.{cases_lt}
use Rattle.std.proofs.lemmas.List.{length-replicate, get_or-map, get_or_past}
use Rattle.std.proofs.lemmas.Option.{same_Some, none-some, slice_get_within}
use Rattle.xs_forest.specs.declared.row.Alt.{Alt}
use Rattle.xs_forest.specs.Rows.{Rows}
use Rattle.xs_gram.specs.declared.parts.GItem.TheVariants.{Non}
use Rattle.xs_gram.specs.Grammar.{Grammar, rule_of, items, slots, ItemAt}
use Rattle.xs_gram.specs.Common.{word, of_term, made, KidFits}
use Rattle.xs_gram.specs.Laws.{Every, HasNumberedSlots}
use Rattle.xs_gram.specs.Sound.{IsSound}
use Rattle.xs_tree.specs.Flat.{tree_at, kids_at}
use Rattle.xs_cover.specs.declared.pick.Pick.{Pick}
use Rattle.xs_cover.specs.declared.pick.Pick.TheVariants.{Whole}
use Rattle.xs_cover.specs.declared.picks.Waiter.{Waiter}
use Rattle.xs_cover.specs.declared.prices.Prices.{Prices}
use Rattle.xs_cover.specs.Sizes.{capped, weight}
use Rattle.xs_cover.specs.Costs.{rule_cost}
use Rattle.xs_cover.specs.Leaves.{AreLeaves, word_at}
use Rattle.xs_cover.specs.Prices.{costs_in, AreKids, AreLow, IsClosed, Stands, placed}
use Rattle.xs_cover.specs.Picks.{HasRow, IsLeft, IsPick, HaveSome, IsWaiter, IsReady, waiters_at, by_left, Holds, IsSet, IsAdded, WaitsFor}
use Rattle.xs_cover.specs.Tables.{at}
use Rattle.xs_cover.proofs.Counting.{at_replicate}
use Rattle.xs_cover.proofs.Growing.{HaveStayed, has_on, pick_kept, picks_added, added_stays, added_there}
use Rattle.xs_cover.proofs.Holding.{waiter_on, ready_on, set_on}
use Rattle.xs_cover.proofs.Knowing.{KeepsKnown, rule_kept, items_known, item_low, known_more}
use Rattle.xs_cover.proofs.Starting.{have_start}
use Rattle.xs_cover.proofs.Showing.{placed_long, placed_each, have_more}
use Rattle.xs_cover.proofs.Ways.{at_set}

-- numbers at the slots of a rule
pub kids_for : (g : Grammar) → HasNumberedSlots g → (numbers : List ℕ) (q : ℕ) → (kids : List ℕ) × AreKids numbers (items g q) kids
kids_for g numbered numbers q =
    let is = items g q in
    let first : List ℕ = replicate (length (slots is)) 0 in
    let long : length first ≡ length (slots is) = length-replicate {A = ℕ} (length (slots is)) 0 in (
      placed numbers first is,
      record {
        counted = placed_long numbers first is ∙ long;
        each = λ s kind found. placed_each numbers first is s kind (numbered q).once (subst (λ (n : ℕ). Every (λ m. m < n) (slots is)) (sym long) (numbered q).below) found;
      },
    )

module _ (g h : Grammar) (terms nons : List ℕ) (rows : Rows Pick) (waits : List (List Waiter)) (ready : List (ℕ × ℕ)) (sound : IsSound g) (holds : Holds g h terms nons rows waits ready) (left rule cost : ℕ) (entry : IsReady g h terms nons rows (left, rule)) (sum : cost + left ≡ 1000000000) where
  cost_is : rule_cost g h (costs_in terms nons []) rule ≡ cost
  cost_is = omega (arith, sum, entry.cost)

  cheap : cost < 1000000000
  cheap = omega (arith, sum, entry.some)

  all_known : (n m s : ℕ) → ItemAt g rule n (Non m s) → at nons m < 1000000000
  all_known n m s item = items_known g h terms nons rule n m s (omega (arith, cost_is, cheap)) item

  -- where the nonterminal costs no more, the rule is done with
  pub set_low : at nons (rule_of g rule).non ≤ cost → IsSet g h terms nons waits ready rule
  set_low low = inr (record { known = all_known; closed = inl (omega (arith, low, cost_is)) })

  module _ (dearer : 1000000000 < at nons (rule_of g rule).non + left) where
    in_g : (rule_of g rule).non < g.nons
    in_g = sound.built.range.rules rule entry.there

    in_nons : (rule_of g rule).non < length nons
    in_nons = omega (arith, in_g, holds.some.have.nons_counted)

    unknown : 1000000000 ≤ at nons (rule_of g rule).non
    unknown = elim (cases_lt (at nons (rule_of g rule).non) 1000000000) [
      | inl known ↦ absurd (omega (arith, dearer, entry.dearest (rule_of g rule).non in_g known))
      | inr most ↦ omega (arith, most)
    ]

    kept : KeepsKnown nons (set nons (rule_of g rule).non cost)
    kept = known_more nons (rule_of g rule).non cost in_nons unknown

    at_non : (n : ℕ) → ((n ≡ (rule_of g rule).non) × (at (set nons (rule_of g rule).non cost) n ≡ cost)) ⊎ ((n ≢ (rule_of g rule).non) × (at (set nons (rule_of g rule).non cost) n ≡ at nons n))
    at_non n = at_set nons (rule_of g rule).non n cost in_nons

    pub now_is : at (set nons (rule_of g rule).non cost) (rule_of g rule).non ≡ cost
    now_is = elim (at_non (rule_of g rule).non) [ inl here ↦ here.1 | inr other ↦ absurd (other.0 refl) ]

    cost_now : rule_cost g h (costs_in terms (set nons (rule_of g rule).non cost) []) rule ≡ cost
    cost_now = rule_kept g h terms nons (set nons (rule_of g rule).non cost) rule kept all_known ∙ cost_is

    -- none that is known costs more
    pub most_now : (n : ℕ) → n < g.nons → at (set nons (rule_of g rule).non cost) n < 1000000000 → at (set nons (rule_of g rule).non cost) n ≤ cost
    most_now n there known = elim (at_non n) [
      | inl here ↦ omega (arith, here.1)
      | inr other ↦ omega (arith, other.1, entry.dearest n there (omega (arith, known, other.1)), sum)
    ]

    some_now : HaveSome g h terms (set nons (rule_of g rule).non cost)
    some_now =
        let have = holds.some.have in
        let kids = kids_for g sound.built.slots holds.some.numbers rule in
        record {
          trees = holds.some.trees ++ made rule (kids_at holds.some.trees kids.0) ∷ [];
          numbers = set holds.some.numbers (rule_of g rule).non (length holds.some.trees);
          have = have_more g h terms nons holds.some.numbers holds.some.trees rule cost kids.0 sound have entry.there kids.1 (omega (arith, cost_is, cheap)) (omega (arith, unknown, cheap));
        }

    module _ (new : Rows Pick) (row : Option ℕ) (is_left : IsLeft rows rule (length (items g rule)) row) (added : IsAdded rows (Whole (rule_of g rule).non) (record { rule = rule; left = row; right = None }) new) where
      alt : Alt
      alt = record { rule = rule; left = row; right = None }

      stayed : HaveStayed rows new
      stayed = added_stays rows new (Whole (rule_of g rule).non) (record { rule = rule; left = row; right = None }) added

      is_whole : IsPick g h terms (set nons (rule_of g rule).non cost) rows (Whole (rule_of g rule).non) (record { rule = rule; left = row; right = None } ∷ [])
      is_whole = record {
        rule = rule;
        left = row;
        alts_are = refl;
        there = entry.there;
        of = refl;
        known = omega (arith, now_is, cheap);
        cost = cost_now ∙ sym now_is;
        is_left = is_left;
      }

      wholes : (n : ℕ) → n < g.nons → at (set nons (rule_of g rule).non cost) n < 1000000000 → HasRow new (Whole n)
      wholes n there known = elim (at_non n) [
        | inl here ↦ subst (λ m. HasRow new (Whole m)) (sym here.0) (added_there rows new (Whole (rule_of g rule).non) (record { rule = rule; left = row; right = None }) added)
        | inr other ↦ has_on rows new (Whole n) stayed (holds.have.wholes n there (omega (arith, known, other.1)))
      ]

      pub holds_whole : ((x : ℕ × ℕ) → Contains ready x → x.0 ≤ left) → Holds g h terms (set nons (rule_of g rule).non cost) new waits ready
      holds_whole greatest = record {
        counted = holds.counted;
        some = some_now;
        have = record {
          picks = picks_added g h terms (set nons (rule_of g rule).non cost) rows new (Whole (rule_of g rule).non) (record { rule = rule; left = row; right = None }) added (λ k l alts e. pick_kept g h terms nons (set nons (rule_of g rule).non cost) rows l alts kept (holds.have.picks k l alts e)) is_whole;
          wholes = wholes;
        };
        waiters = λ n k w e. waiter_on g h terms nons (set nons (rule_of g rule).non cost) rows new n w kept stayed (holds.waiters n k w e);
        entries = λ e in_heap. ready_on g h terms nons (set nons (rule_of g rule).non cost) rows new e kept stayed (λ n there known. let low = most_now n there known in omega (arith, low, greatest e in_heap, sum)) (holds.entries e in_heap);
        ordered = holds.ordered;
      }

    -- each rule is set, or waited for the nonterminal
    pub set_whole : (r : ℕ) → IsSet g h terms nons waits ready r ⊎ (r ≡ rule) → IsSet g h terms (set nons (rule_of g rule).non cost) waits ready r ⊎ WaitsFor waits (rule_of g rule).non 0 r
    set_whole r (inr is) = inl (subst (λ k. IsSet g h terms (set nons (rule_of g rule).non cost) waits ready k) (sym is) (inr (record {
      known = λ n m s item. let known = all_known n m s item in omega (arith, known, kept m known);
      closed = inl (omega (arith, now_is, cost_now));
    })))
    set_whole r (inl (inl a)) = elim (at_non a.non) [
      | inl here ↦ inr (record {
        place = a.place;
        dot = a.dot;
        after = omega arith;
        in_list = ap (λ n. slice_get (waiters_at waits n) a.place) (sym here.0) ∙ a.in_list;
      })
      | inr other ↦ inl (inl (record { non = a.non; place = a.place; dot = a.dot; slot = a.slot; in_list = a.in_list; item = a.item; unknown = omega (arith, a.unknown, other.1) }))
    ]
    set_whole r (inl (inr c)) = inl (inr (record {
      known = λ n m s item. let known = c.known n m s item in omega (arith, known, kept m known);
      closed = by c.closed (at_non (rule_of g r).non);
    }))
      where
        same : rule_cost g h (costs_in terms (set nons (rule_of g rule).non cost) []) r ≡ rule_cost g h (costs_in terms nons []) r
        same = rule_kept g h terms nons (set nons (rule_of g rule).non cost) r kept c.known

        by : (at nons (rule_of g r).non ≤ rule_cost g h (costs_in terms nons []) r) ⊎ ((k : ℕ) × Contains ready (k, r)) → (((rule_of g r).non ≡ (rule_of g rule).non) × (at (set nons (rule_of g rule).non cost) (rule_of g r).non ≡ cost)) ⊎ (((rule_of g r).non ≢ (rule_of g rule).non) × (at (set nons (rule_of g rule).non cost) (rule_of g r).non ≡ at nons (rule_of g r).non))
            → (at (set nons (rule_of g rule).non cost) (rule_of g r).non ≤ rule_cost g h (costs_in terms (set nons (rule_of g rule).non cost) []) r) ⊎ ((k : ℕ) × Contains ready (k, r))
        by (inr in_heap) either = inr in_heap
        by (inl low) (inl here) = inl (omega (arith, low, here.1, same, unknown, cheap, ap (at nons) here.0))
        by (inl low) (inr other) = inl (omega (arith, low, other.1, same))

-- one more of the rules that waited for a nonterminal
pub set_more : (g h : Grammar) (terms nons : List ℕ) (first waits more : List (List Waiter)) (ready new : List (ℕ × ℕ)) (non place r : ℕ) (w : Waiter) → ((n k : ℕ) (v : Waiter) → slice_get (waiters_at waits n) k ≡ Some v → slice_get (waiters_at more n) k ≡ Some v) → ((e : ℕ × ℕ) → Contains ready e → Contains new e) → slice_get (waiters_at first non) place ≡ Some w → IsSet g h terms nons more new w.rule → IsSet g h terms nons waits ready r ⊎ WaitsFor first non place r
    → IsSet g h terms nons more new r ⊎ WaitsFor first non (place + 1) r
set_more g h terms nons first waits more ready new non place r w grown joined at_place is (inl set) = inl (set_on g h terms nons waits more ready new r grown joined set)
set_more g h terms nons first waits more ready new non place r w grown joined at_place is (inr wait) = elim (cases_lt place wait.place) [
  | inl later ↦ inr (record { place = wait.place; dot = wait.dot; after = omega (arith, later); in_list = wait.in_list })
  | inr here ↦
      let same : wait.place ≡ place = omega (arith, here, wait.after) in
      let one : w ≡ record { rule = r; dot = wait.dot } = same_Some w (record { rule = r; dot = wait.dot }) (sym at_place ∙ ap (λ k. slice_get (waiters_at first non) k) (sym same) ∙ wait.in_list) in
      inl (subst (λ k. IsSet g h terms nons more new k) (ap (λ (v : Waiter). v.rule) one) is)
]

pub set_all : (g h : Grammar) (terms nons : List ℕ) (first waits : List (List Waiter)) (ready : List (ℕ × ℕ)) (non count r : ℕ) → length (waiters_at first non) ≤ count → IsSet g h terms nons waits ready r ⊎ WaitsFor first non count r → IsSet g h terms nons waits ready r
set_all g h terms nons first waits ready non count r long (inl set) = set
set_all g h terms nons first waits ready non count r long (inr wait) = absurd (omega (arith, long, wait.after, slice_get_within (waiters_at first non) wait.place (record { rule = r; dot = wait.dot }) wait.in_list))

-- a rule that waited for the dearest nonterminal costs as much
pub waiter_dear : (g h : Grammar) (terms nons : List ℕ) (rows : Rows Pick) (non : ℕ) (w : Waiter) → IsWaiter g nons rows non w → ((n : ℕ) → n < g.nons → at nons n < 1000000000 → at nons n ≤ at nons non) → (n : ℕ) → n < g.nons → at nons n < 1000000000 → at nons n ≤ rule_cost g h (costs_in terms nons []) w.rule
waiter_dear g h terms nons rows non w is most n there known = omega (arith, most n there known, item_low g h terms nons w.rule w.dot non is.slot is.item)

-- no rule is ready any longer
pub closed_at_last : (g h : Grammar) (p : Prices) (rows : Rows Pick) (waits : List (List Waiter)) (ready : List (ℕ × ℕ)) (r : ℕ) → Holds g h p.terms.items p.nons.items rows waits ready → ready ≡ [] → IsSet g h p.terms.items p.nons.items waits ready r → IsClosed g h p r
closed_at_last g h p rows waits ready r holds none (inl a) = omega (arith, a.unknown, item_low g h p.terms.items p.nons.items r a.dot a.non a.slot a.item, holds.some.have.low (rule_of g r).non)
closed_at_last g h p rows waits ready r holds none (inr c) = by c.closed
  where
    by : (at p.nons.items (rule_of g r).non ≤ rule_cost g h (costs_in p.terms.items p.nons.items []) r) ⊎ ((left : ℕ) × Contains ready (left, r)) → IsClosed g h p r
    by (inl low) = low
    by (inr in_heap) = absurd (omega (arith, in_heap.1.1, ap length none))

-- leaves stand for the terminals
pub leaves_stand : (g h : Grammar) (words : List (List ℕ)) (costs : List ℕ) (t : ℕ) → IsSound g → AreLeaves g words costs → t < length g.terms → Stands g h (map word words) (of_term t) (at costs t) t
leaves_stand g h words costs t sound leaves there =
    let within : t < length words = omega (arith, there, leaves.counted) in
    let tree : tree_at (map word words) t ≡ word (word_at words t) = get_or-map word words t [] (word []) within in
    record {
      there = omega (arith, within, map_long words);
      fits = subst (λ u. KidFits g (Some (of_term t)) u) (sym tree) (((sound.built.automata.terms t there).accepts (word_at words t)).1 (leaves.shortest t there).accepted);
      light = omega (arith, ap (λ u. capped (weight g h u)) tree, leaves.costs_are t there);
    }
  where
    map_long : (ws : List (List ℕ)) → length (map word ws) ≡ length ws
    map_long [] = refl
    map_long (w ∷ ws) = ap suc (map_long ws)

-- no nonterminal has a row
pub holds_first : (g h : Grammar) (words : List (List ℕ)) (terms nons : List ℕ) (rows : Rows Pick) (waits : List (List Waiter)) (ready : List (ℕ × ℕ)) → IsSound g → AreLeaves g words terms → nons ≡ replicate g.nons 1000000000 → rows ≡ [] → length waits ≡ g.nons → ((n : ℕ) → waiters_at waits n ≡ []) → ready ≡ [] → IsHeap by_left ready
    → Holds g h terms nons rows waits ready
holds_first g h words terms nons rows waits ready sound leaves full no_rows counted empty none ordered = record {
  counted = counted;
  some = record {
    trees = map word words;
    numbers = replicate g.nons 0;
    have = have_start g h (map word words) terms nons (replicate g.nons 0) leaves.costs_counted full refl (λ t there. leaves_stand g h words terms t sound leaves there);
  };
  have = record {
    picks = λ k label alts e. absurd (none-some (label, alts) (ap (λ r. slice_get r k) (sym no_rows) ∙ e));
    wholes = λ n there known. absurd (omega (arith, known, at_most n there));
  };
  waiters = λ n k w e. absurd (none-some w (ap (λ l. slice_get l k) (sym (empty n)) ∙ e));
  entries = λ e in_heap. absurd (omega (arith, in_heap.1, ap length none));
  ordered = ordered;
}
  where
    at_most : (n : ℕ) → n < g.nons → at nons n ≡ 1000000000
    at_most n there = ap (λ (l : List ℕ). at l n) full ∙ at_replicate g.nons 1000000000 n there

-- no word of a terminal is shorter than its leaf's
pub leaves_low : (g : Grammar) (words : List (List ℕ)) (costs : List ℕ) → IsSound g → AreLeaves g words costs → AreLow g costs
leaves_low g words costs sound leaves t w matches = elim (cases_lt t (length g.terms)) [
  | inl there ↦ omega (arith, leaves.costs_are t there, (leaves.shortest t there).shortest w (((sound.built.automata.terms t there).accepts w).0 matches))
  | inr past ↦ omega (arith, get_or_past costs t 0 (omega (arith, past, leaves.costs_counted)))
]
