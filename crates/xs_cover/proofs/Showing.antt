-- Nodes made by number: what their children are, and that they cost what their rules cost.
use Rattle.std.proofs.Common.{◌≡◌, ◌≢◌, ◌⊎◌, inl, inr, ℕ, ◌<◌, ◌≤◌, List, [], ◌∷◌, ◌++◌, length, length-append, All, refl, sym, subst, ◌∙◌, ap, arith, Some, set}
use Rattle.std.proofs.lemmas.Bool.Decides.{eqb_tells}
use Rattle.std.proofs.lemmas.List.{get_or_append_left, get_or-set_same, get_or-set_other}
use Rattle.std.proofs.lemmas.List.Elements.{All-from_get_or}
use Rattle.std.proofs.Math.ListN.{length-set}
use Rattle.std.proofs.Math.Seq.{get_or-append_seam}
use Rattle.xs_gram.specs.declared.parts.GItem.{GItem}
use Rattle.xs_gram.specs.declared.parts.GItem.TheVariants.{Fixed, Term, Non, Skip}
use Rattle.xs_gram.specs.Grammar.{Grammar, rule_of, items, slots}
use Rattle.xs_gram.specs.Common.{Common, Kind, word, made, of_term, of_non, lookup, kinds, KidFits}
use Rattle.xs_gram.specs.Laws.{Every, IsDistinct}
use Rattle.xs_gram.specs.Sound.{IsSound}
use Rattle.xs_gram.proofs.Printed.{kinds_long}
use Rattle.xs_gram.proofs.Entries.{lookup_same, lookup_other}
use Rattle.xs_tree.specs.Flat.{tree_at, kids_at}
use Rattle.xs_cover.specs.Sizes.{capped, weight}
use Rattle.xs_cover.specs.Costs.{kind_cost, rule_cost}
use Rattle.xs_cover.specs.Tables.{at}
use Rattle.xs_cover.specs.Prices.{costs_in, Stands, HaveTrees, AreKids, number_for, placed}
use Rattle.xs_cover.proofs.Costs.{item_of}
use Rattle.xs_cover.proofs.Filling.{fill, but, but_here, but_other, filled_at, kind_at, IsFilled, IsChoice, node_filled}
use Rattle.xs_cover.proofs.Existing.{KindIn, kind_in, some_kind, no_kind}
use Rattle.xs_cover.proofs.Around.{item_cheap}
use Rattle.xs_cover.proofs.Ways.{at_set}

-- what is put at other slots leaves the number at a slot
placed_other : (numbers kids : List ℕ) (is : List GItem) (s : ℕ) → Every (λ m. m ≢ s) (slots is) → at (placed numbers kids is) s ≡ at kids s
placed_other numbers kids [] s other = refl
placed_other numbers kids (Fixed f ∷ is) s other = placed_other numbers kids is s other
placed_other numbers kids (Term t k ∷ is) s other = placed_other numbers (set kids k t) is s other.1 ∙ get_or-set_other kids k s t 0 (λ e. other.0 (sym e))
placed_other numbers kids (Non n k ∷ is) s other = placed_other numbers (set kids k (at numbers n)) is s other.1 ∙ get_or-set_other kids k s (at numbers n) 0 (λ e. other.0 (sym e))
placed_other numbers kids (Skip k ∷ is) s other = placed_other numbers kids is s other

pub placed_long : (numbers kids : List ℕ) (is : List GItem) → length (placed numbers kids is) ≡ length kids
placed_long numbers kids [] = refl
placed_long numbers kids (Fixed f ∷ is) = placed_long numbers kids is
placed_long numbers kids (Term t k ∷ is) = placed_long numbers (set kids k t) is ∙ length-set kids k t
placed_long numbers kids (Non n k ∷ is) = placed_long numbers (set kids k (at numbers n)) is ∙ length-set kids k (at numbers n)
placed_long numbers kids (Skip k ∷ is) = placed_long numbers kids is

-- each slot has the number for its kind
pub placed_each : (numbers kids : List ℕ) (is : List GItem) (s : ℕ) (kind : Kind) → IsDistinct (slots is) → Every (λ m. m < length kids) (slots is) → lookup s (kinds is) ≡ Some kind → at (placed numbers kids is) s ≡ number_for numbers kind
placed_each numbers kids [] s kind once below e = absurd (no_kind kind e)
placed_each numbers kids (Fixed f ∷ is) s kind once below e = placed_each numbers kids is s kind once below e
placed_each numbers kids (Skip k ∷ is) s kind once below e = placed_each numbers kids is s kind once below e
placed_each numbers kids (Term t k ∷ is) s kind once below e = elim (eqb_tells s k) [
  | inl (one, same) ↦
      let is_kind : of_term t ≡ kind = some_kind (of_term t) kind (sym (lookup_same k (of_term t) (kinds is)) ∙ ap (λ j. lookup j ((k, of_term t) ∷ kinds is)) (sym same) ∙ e) in
      ap (λ j. at (placed numbers (set kids k t) is) j) same ∙ placed_other numbers (set kids k t) is k once.0 ∙ get_or-set_same kids k t 0 below.0 ∙ ap (number_for numbers) is_kind
  | inr (two, ne) ↦ placed_each numbers (set kids k t) is s kind once.1 (subst (λ n. Every (λ m. m < n) (slots is)) (sym (length-set kids k t)) below.1) (sym (lookup_other k s (of_term t) (kinds is) ne) ∙ e)
]
placed_each numbers kids (Non n k ∷ is) s kind once below e = elim (eqb_tells s k) [
  | inl (one, same) ↦
      let is_kind : of_non n ≡ kind = some_kind (of_non n) kind (sym (lookup_same k (of_non n) (kinds is)) ∙ ap (λ j. lookup j ((k, of_non n) ∷ kinds is)) (sym same) ∙ e) in
      ap (λ j. at (placed numbers (set kids k (at numbers n)) is) j) same ∙ placed_other numbers (set kids k (at numbers n)) is k once.0 ∙ get_or-set_same kids k (at numbers n) 0 below.0 ∙ ap (number_for numbers) is_kind
  | inr (two, ne) ↦ placed_each numbers (set kids k (at numbers n)) is s kind once.1 (subst (λ j. Every (λ m. m < j) (slots is)) (sym (length-set kids k (at numbers n))) below.1) (sym (lookup_other k s (of_non n) (kinds is) ne) ∙ e)
]

-- a tree stands where the list goes on
pub tree_on : (a more : List Common) (k : ℕ) → k < length a → tree_at (a ++ more) k ≡ tree_at a k
tree_on a more k h = get_or_append_left a more (word []) k h

pub stands_on : (g h : Grammar) (a more : List Common) (kind : Kind) (cost k : ℕ) → Stands g h a kind cost k → Stands g h (a ++ more) kind cost k
stands_on g h a more kind cost k s =
    let same = tree_on a more k s.there in
    record {
      there = omega (arith, s.there, length-append a more);
      fits = subst (λ t. KidFits g (Some kind) t) (sym same) s.fits;
      light = omega (arith, s.light, ap (λ t. capped (weight g h t)) same);
    }

pub have_on : (g h : Grammar) (a more : List Common) (terms nons numbers : List ℕ) → HaveTrees g h a terms nons numbers → HaveTrees g h (a ++ more) terms nons numbers
have_on g h a more terms nons numbers have = record {
  terms_counted = have.terms_counted;
  nons_counted = have.nons_counted;
  numbers_counted = have.numbers_counted;
  low = have.low;
  leaves = λ t there. stands_on g h a more (of_term t) (at terms t) t (have.leaves t there);
  nodes = λ n there less. stands_on g h a more (of_non n) (at nons n) (at numbers n) (have.nodes n there less);
}

module _ (g h : Grammar) (terms nons : List ℕ) (numbers : List ℕ) (trees : List Common) (sound : IsSound g) (have : HaveTrees g h trees terms nons numbers) (q : ℕ) (cheap : rule_cost g h (costs_in terms nons []) q < 1000000000) (kids : List ℕ) (are : AreKids numbers (items g q) kids) where
  stands_for : (s : ℕ) (kind : Kind) → KindIn g kind → lookup s (kinds (items g q)) ≡ Some kind → Stands g h trees kind (kind_cost (costs_in terms nons []) (Some kind)) (number_for numbers kind)
  stands_for s (of_term t) there e = have.leaves t there
  stands_for s (of_non n) there e =
      let item = item_of (items g q) s n e in
      have.nodes n there (omega (arith, cheap, item_cheap (costs_in terms nons []) (items g q) item.dot n item.slot item.at))

  stands_at : (s : ℕ) (kind : Kind) → lookup s (kinds (items g q)) ≡ Some kind → Stands g h trees kind (kind_cost (costs_in terms nons []) (Some kind)) (at kids s)
  stands_at s kind e = subst (λ k. Stands g h trees kind (kind_cost (costs_in terms nons []) (Some kind)) k) (sym (are.each s kind e)) (stands_for s kind (kind_in g sound.built.range q s kind e) e)

  found_at : (s : ℕ) → s < length (kinds (items g q)) → (kind : Kind) × (lookup s (kinds (items g q)) ≡ Some kind)
  found_at s below = kind_at (items g q) (sound.built.slots q) s below

  -- the numbers are of trees that are there
  pub kids_there : All (λ k. k < length trees) kids
  kids_there = All-from_get_or (λ k. k < length trees) kids 0 (λ s below. let k = found_at s (omega (arith, below, are.counted, kinds_long (items g q))) in (stands_at s k.0 k.1).there)

  -- what stands at the slots
  pub kids_chosen : IsChoice g h (costs_in terms nons []) (items g q) (λ s. tree_at trees (at kids s))
  kids_chosen = record {
    fits = λ s below. let k = found_at s below in subst (λ o. KidFits g o (tree_at trees (at kids s))) (sym k.1) (stands_at s k.0 k.1).fits;
    light = λ s below. let k = found_at s below in subst (λ o. capped (weight g h (tree_at trees (at kids s))) ≤ kind_cost (costs_in terms nons []) o) (sym k.1) (stands_at s k.0 k.1).light;
  }

  pub kids_long_is : length kids ≡ length (kinds (items g q))
  kids_long_is = are.counted ∙ sym (kinds_long (items g q))

  pub kids_are : kids_at trees kids ≡ fill (λ s. tree_at trees (at kids s)) 0 (length (kinds (items g q)))
  kids_are = filled_at trees (λ s. tree_at trees (at kids s)) 0 kids (λ j. ap (λ k. tree_at trees (at kids k)) (omega arith)) ∙ ap (fill (λ s. tree_at trees (at kids s)) 0) kids_long_is

  pub node_made : IsFilled g h q (kids_at trees kids) (rule_cost g h (costs_in terms nons []) q)
  node_made = subst (λ ks. IsFilled g h q ks (rule_cost g h (costs_in terms nons []) q)) (sym kids_are) (node_filled g h (costs_in terms nons []) q (λ s. tree_at trees (at kids s)) sound.built.slots kids_chosen)

  -- another number put at one slot
  pub kids_but : (s number : ℕ) → s < length (kinds (items g q)) → kids_at trees (set kids s number) ≡ fill (but s (tree_at trees number) (λ j. tree_at trees (at kids j))) 0 (length (kinds (items g q)))
  kids_but s number below =
      let there : s < length kids = omega (arith, below, kids_long_is) in
      let f = but s (tree_at trees number) (λ (j : ℕ). tree_at trees (at kids j)) in
      filled_at trees f 0 (set kids s number) (λ j. ap f (omega arith) ∙ same j there) ∙ ap (fill f 0) (length-set kids s number ∙ kids_long_is)
    where
      same : (j : ℕ) → s < length kids → but s (tree_at trees number) (λ i. tree_at trees (at kids i)) j ≡ tree_at trees (at (set kids s number) j)
      same j there = elim (at_set kids s j number there) [
        | inl (here, is) ↦ ap (but s (tree_at trees number) (λ i. tree_at trees (at kids i))) here ∙ but_here s (tree_at trees number) (λ i. tree_at trees (at kids i)) ∙ ap (tree_at trees) (sym is)
        | inr (apart, is) ↦ but_other s j (tree_at trees number) (λ i. tree_at trees (at kids i)) apart ∙ ap (tree_at trees) (sym is)
      ]

-- one more node, for the nonterminal of its rule
pub have_more : (g h : Grammar) (terms nons : List ℕ) (numbers : List ℕ) (trees : List Common) (q cost : ℕ) (kids : List ℕ) → IsSound g → HaveTrees g h trees terms nons numbers → q < length g.rules → AreKids numbers (items g q) kids → cost ≡ capped (rule_cost g h (costs_in terms nons []) q) → cost < at nons (rule_of g q).non
    → HaveTrees g h (trees ++ made q (kids_at trees kids) ∷ []) terms (set nons (rule_of g q).non cost) (set numbers (rule_of g q).non (length trees))
have_more g h terms nons numbers trees q cost kids sound have there are is less = record {
  terms_counted = have.terms_counted;
  nons_counted = length-set nons (rule_of g q).non cost ∙ have.nons_counted;
  numbers_counted = length-set numbers (rule_of g q).non (length trees) ∙ have.numbers_counted;
  low = λ n. low n (at_set nons (rule_of g q).non n cost in_nons);
  leaves = λ t in_terms. stands_on g h trees (made q (kids_at trees kids) ∷ []) (of_term t) (at terms t) t (have.leaves t in_terms);
  nodes = λ n in_g cheap. nodes n in_g cheap (at_set nons (rule_of g q).non n cost in_nons) (at_set numbers (rule_of g q).non n (length trees) in_numbers);
}
  where
    in_nons : (rule_of g q).non < length nons
    in_nons = omega (arith, sound.built.range.rules q there, have.nons_counted)

    in_numbers : (rule_of g q).non < length numbers
    in_numbers = omega (arith, sound.built.range.rules q there, have.numbers_counted)

    node : IsFilled g h q (kids_at trees kids) (rule_cost g h (costs_in terms nons []) q)
    node = node_made g h terms nons numbers trees sound have q (omega (arith, is, less, have.low (rule_of g q).non)) kids are

    low : (n : ℕ) → ((n ≡ (rule_of g q).non) × (at (set nons (rule_of g q).non cost) n ≡ cost)) ⊎ ((n ≢ (rule_of g q).non) × (at (set nons (rule_of g q).non cost) n ≡ at nons n)) → at (set nons (rule_of g q).non cost) n ≤ 1000000000
    low n (inl here) = omega (arith, here.1, less, have.low (rule_of g q).non)
    low n (inr other) = omega (arith, other.1, have.low n)

    last : tree_at (trees ++ made q (kids_at trees kids) ∷ []) (length trees) ≡ made q (kids_at trees kids)
    last = get_or-append_seam trees (made q (kids_at trees kids)) [] (word [])

    stands : Stands g h (trees ++ made q (kids_at trees kids) ∷ []) (of_non (rule_of g q).non) cost (length trees)
    stands = record {
      there = omega (arith, length-append trees (made q (kids_at trees kids) ∷ []));
      fits = subst (λ t. KidFits g (Some (of_non (rule_of g q).non)) t) (sym last) ((there, refl), node.fits);
      light = omega (arith, ap (λ t. capped (weight g h t)) last, node.light, is);
    }

    moved : (n : ℕ) → (rule_of g q).non ≡ n → cost ≡ at (set nons (rule_of g q).non cost) n → length trees ≡ at (set numbers (rule_of g q).non (length trees)) n → Stands g h (trees ++ made q (kids_at trees kids) ∷ []) (of_non (rule_of g q).non) cost (length trees) → Stands g h (trees ++ made q (kids_at trees kids) ∷ []) (of_non n) (at (set nons (rule_of g q).non cost) n) (at (set numbers (rule_of g q).non (length trees)) n)
    moved n a b c s = subst (λ k. Stands g h (trees ++ made q (kids_at trees kids) ∷ []) (of_non n) (at (set nons (rule_of g q).non cost) n) k) c (subst (λ k. Stands g h (trees ++ made q (kids_at trees kids) ∷ []) (of_non n) k (length trees)) b (subst (λ m. Stands g h (trees ++ made q (kids_at trees kids) ∷ []) (of_non m) cost (length trees)) a s))

    nodes : (n : ℕ) → n < g.nons → at (set nons (rule_of g q).non cost) n < 1000000000 → ((n ≡ (rule_of g q).non) × (at (set nons (rule_of g q).non cost) n ≡ cost)) ⊎ ((n ≢ (rule_of g q).non) × (at (set nons (rule_of g q).non cost) n ≡ at nons n)) → ((n ≡ (rule_of g q).non) × (at (set numbers (rule_of g q).non (length trees)) n ≡ length trees)) ⊎ ((n ≢ (rule_of g q).non) × (at (set numbers (rule_of g q).non (length trees)) n ≡ at numbers n)) → Stands g h (trees ++ made q (kids_at trees kids) ∷ []) (of_non n) (at (set nons (rule_of g q).non cost) n) (at (set numbers (rule_of g q).non (length trees)) n)
    nodes n in_g cheap (inl here) (inl same) = moved n (sym here.0) (sym here.1) (sym same.1) stands
    nodes n in_g cheap (inl here) (inr apart) = absurd (apart.0 here.0)
    nodes n in_g cheap (inr apart) (inl same) = absurd (apart.0 same.0)
    nodes n in_g cheap (inr other) (inr apart) =
        let old = stands_on g h trees (made q (kids_at trees kids) ∷ []) (of_non n) (at nons n) (at numbers n) (have.nodes n in_g (omega (arith, other.1, cheap))) in
        subst (λ k. Stands g h (trees ++ made q (kids_at trees kids) ∷ []) (of_non n) (at (set nons (rule_of g q).non cost) n) k) (sym apart.1) (subst (λ c. Stands g h (trees ++ made q (kids_at trees kids) ∷ []) (of_non n) c (at numbers n)) (sym other.1) old)
