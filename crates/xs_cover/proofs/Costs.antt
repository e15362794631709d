-- Closed costs bound the weight of each tree that shows a production from below.
use Rattle.std.proofs.Common.{◌≡◌, ◌⊎◌, inl, inr, ℕ, suc, ◌+◌, ◌==◌, ◌≤◌, List, [], ◌∷◌, length, refl, sym, subst, ◌∙◌, ap, arith, Some, None, Bool, true, false, if◌then◌else◌, slice_get}
use Rattle.std.specs.declared.option.Option.{Option}
use Rattle.xs_gram.proofs.Printed.{keys-kinds, kids_long}
use Rattle.xs_gram.specs.declared.parts.GItem.{GItem}
use Rattle.xs_gram.specs.declared.parts.GItem.TheVariants.{Fixed, Term, Non, Skip}
use Rattle.xs_gram.specs.Grammar.{Grammar, rule_of, items, slots, IsRuleOf}
use Rattle.xs_gram.specs.Common.{Common, Kids, Kind, word, made, no_kid, kid, of_term, of_non, lookup, kinds, KidsFit, KidFits}
use Rattle.xs_gram.specs.Laws.{IsDistinct, HasNumberedSlots}
use Rattle.xs_gram.proofs.Lookup.{AllOf, keys, each_found}
use Rattle.xs_cover.specs.Sizes.{weight, kids_weight, SomeUses}
use Rattle.xs_cover.specs.Costs.{Costs, kind_cost, slots_cost, rule_cost, AreClosed}
use Rattle.xs_cover.specs.Laws.{ClosedCostsAreLow}
use Rattle.xs_cover.proofs.Sums.{sum_of, sum_numbered, sum_from, upto_from}
use Rattle.xs_cover.proofs.Sizes.{fit_long, inner_fit}

-- what the slot of that number costs
abbrev pub cost_at : Costs → List GItem → ℕ → ℕ
cost_at c is slot = kind_cost c (lookup slot (kinds is))

abbrev entries_cost : Costs → List (ℕ × Kind) → ℕ
entries_cost c [] = 0
entries_cost c (e ∷ es) = kind_cost c (Some e.1) + entries_cost c es

slots_entries : (c : Costs) (is : List GItem) → slots_cost c is ≡ entries_cost c (kinds is)
slots_entries c [] = refl
slots_entries c (Fixed f ∷ is) = slots_entries c is
slots_entries c (Term t s ∷ is) = ap (λ n. c.terms t + n) (slots_entries c is)
slots_entries c (Non m s ∷ is) = ap (λ n. c.nons m + n) (slots_entries c is)
slots_entries c (Skip k ∷ is) = slots_entries c is

by_lookup : (c : Costs) (es xs : List (ℕ × Kind)) → AllOf (λ e. lookup e.0 es ≡ Some e.1) xs → entries_cost c xs ≡ sum_of (λ s. kind_cost c (lookup s es)) (keys xs)
by_lookup c es [] all = refl
by_lookup c es (x ∷ xs) all = omega (arith, ap (λ k. kind_cost c k) all.0, by_lookup c es xs all.1)

-- what the slots cost, in the order of their numbers
pub slots_sum : (g : Grammar) (c : Costs) (p : ℕ) → HasNumberedSlots g → slots_cost c (items g p) ≡ sum_from (cost_at c (items g p)) 0 (length (slots (items g p)))
slots_sum g c p numbered =
    let is = items g p in
    let f = λ (s : ℕ). kind_cost c (lookup s (kinds is)) in
    let found : AllOf (λ e. lookup e.0 (kinds is) ≡ Some e.1) (kinds is) = each_found (kinds is) (subst IsDistinct (sym (keys-kinds is)) (numbered p).once) in
    slots_entries c is ∙ by_lookup c (kinds is) (kinds is) found ∙ ap (λ l. sum_of f l) (keys-kinds is) ∙ sum_numbered f (slots is) (numbered p) ∙ upto_from f f 0 (length (slots is)) (λ j. ap f (omega arith))

-- a node weighs at least what its production costs, where its children weigh what its slots cost
pub node_low : (g h : Grammar) (c : Costs) (p : ℕ) (kids : Kids) → HasNumberedSlots g → KidsFit g (items g p) 0 kids → sum_from (cost_at c (items g p)) 0 (kids_long kids) ≤ kids_weight g h kids → rule_cost g h c p ≤ weight g h (made p kids)
node_low g h c p kids numbered fit low =
    let long : length (slots (items g p)) ≡ kids_long kids = omega (arith, fit_long g (items g p) 0 kids fit) in
    let sum : slots_cost c (items g p) ≡ sum_from (cost_at c (items g p)) 0 (kids_long kids) = slots_sum g c p numbered ∙ ap (λ n. sum_from (cost_at c (items g p)) 0 n) long in
    omega (arith, sum, low)

word_low : (g h : Grammar) (c : Costs) (kind : Option Kind) (w : List ℕ) → AreClosed g h c → KidFits g kind (word w) → kind_cost c kind ≤ length w + length w
word_low g h c None w closed fit = absurd fit
word_low g h c (Some (of_term t)) w closed fit = closed.words t w fit
word_low g h c (Some (of_non n)) w closed fit = absurd fit

made_low : (g h : Grammar) (c : Costs) (kind : Option Kind) (p bound : ℕ) (kids : Kids) → AreClosed g h c → KidFits g kind (made p kids) → rule_cost g h c p ≤ bound → kind_cost c kind ≤ bound
made_low g h c None p bound kids closed fit low = absurd fit
made_low g h c (Some (of_term t)) p bound kids closed fit low = absurd fit
made_low g h c (Some (of_non n)) p bound kids closed fit low = omega (arith, closed.rules p fit.0.0, ap c.nons fit.0.1, low)

-- children weigh at least what their slots cost
pub kids_low : (g h : Grammar) (c : Costs) (is : List GItem) (slot : ℕ) (kids : Kids) → HasNumberedSlots g → AreClosed g h c → KidsFit g is slot kids → sum_from (cost_at c is) slot (kids_long kids) ≤ kids_weight g h kids
kids_low g h c is slot no_kid numbered closed fit = omega arith
kids_low g h c is slot (kid (word w) kids) numbered closed fit = omega (arith, word_low g h c (lookup slot (kinds is)) w closed fit.0, kids_low g h c is (slot + 1) kids numbered closed fit.1)
kids_low g h c is slot (kid (made p inner) kids) numbered closed fit =
    let inner_fits = inner_fit g (lookup slot (kinds is)) p inner fit.0 in
    let node = node_low g h c p inner numbered inner_fits (kids_low g h c (items g p) 0 inner numbered closed inner_fits) in
    omega (arith, made_low g h c (lookup slot (kinds is)) p (weight g h (made p inner)) inner closed fit.0 node, kids_low g h c is (slot + 1) kids numbered closed fit.1)

-- an item that is the nonterminal
pub record IsItem (is : List GItem) (n : ℕ) : Type 0 where
  pub dot : ℕ
  pub slot : ℕ
  pub at : slice_get is dot ≡ Some (Non n slot)

after : (i : GItem) (is : List GItem) (n : ℕ) → IsItem is n → IsItem (i ∷ is) n
after i is n it = record { dot = suc it.dot; slot = it.slot; at = it.at }

no_term : (t n : ℕ) → Some (of_term t) ≡ Some (of_non n) → ⊥
no_term t n e = cc

one_non : (m n : ℕ) → Some (of_non m) ≡ Some (of_non n) → m ≡ n
one_non m n e = cc

pub item_of : (is : List GItem) (s n : ℕ) → lookup s (kinds is) ≡ Some (of_non n) → IsItem is n
item_of [] s n e = absurd (none e)
  where
    none : None ≡ Some (of_non n) → ⊥
    none e = cc
item_of (Fixed f ∷ is) s n e = after (Fixed f) is n (item_of is s n e)
item_of (Skip k ∷ is) s n e = after (Skip k) is n (item_of is s n e)
item_of (Term t k ∷ is) s n e = next (k == s) e (λ found. item_of is s n found)
  where
    next : (b : Bool) → (if b then Some (of_term t) else lookup s (kinds is)) ≡ Some (of_non n) → (lookup s (kinds is) ≡ Some (of_non n) → IsItem is n) → IsItem (Term t k ∷ is) n
    next true e rest = absurd (no_term t n e)
    next false e rest = after (Term t k) is n (rest e)
item_of (Non m k ∷ is) s n e = next (k == s) e (λ found. item_of is s n found)
  where
    next : (b : Bool) → (if b then Some (of_non m) else lookup s (kinds is)) ≡ Some (of_non n) → (lookup s (kinds is) ≡ Some (of_non n) → IsItem is n) → IsItem (Non m k ∷ is) n
    next true e rest = record { dot = 0; slot = k; at = ap (λ x. Some (Non x k)) (one_non m n e) }
    next false e rest = after (Non m k) is n (rest e)

-- a slot under which the children use a production: they weigh at least what the other slots cost
-- and the production with what stands around it, less what stands around the slot's nonterminal
record HasHole (g h : Grammar) (c : Costs) (is : List GItem) (slot : ℕ) (kids : Kids) (target : ℕ) : Type 0 where
  pub non : ℕ
  pub place : ℕ
  pub found : lookup place (kinds is) ≡ Some (of_non non)
  pub low : sum_from (cost_at c is) slot (kids_long kids) + target ≤ kids_weight g h kids + (c.around non + c.nons non)

abbrev target_of : Grammar → Grammar → Costs → ℕ → ℕ
target_of g h c p = c.around (rule_of g p).non + rule_cost g h c p

node_uses : (g h : Grammar) (c : Costs) (p n q : ℕ) (kids : Kids) → HasNumberedSlots g → AreClosed g h c → IsRuleOf g n q → KidsFit g (items g q) 0 kids → (q ≡ p) ⊎ HasHole g h c (items g q) 0 kids (target_of g h c p) → target_of g h c p ≤ c.around n + weight g h (made q kids)
node_uses g h c p n q kids numbered closed of fit (inl e) =
    let low : rule_cost g h c q ≤ weight g h (made q kids) = node_low g h c q kids numbered fit (kids_low g h c (items g q) 0 kids numbered closed fit) in
    let same : target_of g h c q ≡ target_of g h c p = ap (λ r. target_of g h c r) e in
    omega (arith, low, same, ap c.around of.1)
node_uses g h c p n q kids numbered closed of fit (inr hole) =
    let item = item_of (items g q) hole.place hole.non hole.found in
    let long : length (slots (items g q)) ≡ kids_long kids = omega (arith, fit_long g (items g q) 0 kids fit) in
    let sum : slots_cost c (items g q) ≡ sum_from (cost_at c (items g q)) 0 (kids_long kids) = slots_sum g c q numbered ∙ ap (λ k. sum_from (cost_at c (items g q)) 0 k) long in
    omega (arith, closed.holes q item.dot hole.non item.slot of.0 item.at, sum, hole.low, ap c.around of.1)

hole_at : (g h : Grammar) (c : Costs) (p q : ℕ) (is : List GItem) (slot : ℕ) (inner kids : Kids) (kind : Option Kind) → lookup slot (kinds is) ≡ kind → HasNumberedSlots g → AreClosed g h c → KidFits g kind (made q inner) → sum_from (cost_at c is) (slot + 1) (kids_long kids) ≤ kids_weight g h kids → (q ≡ p) ⊎ HasHole g h c (items g q) 0 inner (target_of g h c p) → HasHole g h c is slot (kid (made q inner) kids) (target_of g h c p)
hole_at g h c p q is slot inner kids None found numbered closed fit low uses = absurd fit
hole_at g h c p q is slot inner kids (Some (of_term t)) found numbered closed fit low uses = absurd fit
hole_at g h c p q is slot inner kids (Some (of_non n)) found numbered closed fit low uses =
    record { non = n; place = slot; found = found; low = omega (arith, node_uses g h c p n q inner numbered closed fit.0 fit.1 uses, low, ap (λ k. kind_cost c k) found) }

hole_after : (g h : Grammar) (c : Costs) (is : List GItem) (slot target : ℕ) (t : Common) (kids : Kids) → cost_at c is slot ≤ weight g h t → HasHole g h c is (slot + 1) kids target → HasHole g h c is slot (kid t kids) target
hole_after g h c is slot target t kids low hole = record { non = hole.non; place = hole.place; found = hole.found; low = omega (arith, low, hole.low) }

kids_use : (g h : Grammar) (c : Costs) (p : ℕ) (is : List GItem) (slot : ℕ) (kids : Kids) → HasNumberedSlots g → AreClosed g h c → KidsFit g is slot kids → SomeUses kids p → HasHole g h c is slot kids (target_of g h c p)
kids_use g h c p is slot no_kid numbered closed fit uses = absurd uses
kids_use g h c p is slot (kid (word w) kids) numbered closed fit (inl u) = absurd u
kids_use g h c p is slot (kid (word w) kids) numbered closed fit (inr u) =
    hole_after g h c is slot (target_of g h c p) (word w) kids (word_low g h c (lookup slot (kinds is)) w closed fit.0) (kids_use g h c p is (slot + 1) kids numbered closed fit.1 u)
kids_use g h c p is slot (kid (made q inner) kids) numbered closed fit (inl (inl e)) =
    hole_at g h c p q is slot inner kids (lookup slot (kinds is)) refl numbered closed fit.0 (kids_low g h c is (slot + 1) kids numbered closed fit.1) (inl e)
kids_use g h c p is slot (kid (made q inner) kids) numbered closed fit (inl (inr u)) =
    hole_at g h c p q is slot inner kids (lookup slot (kinds is)) refl numbered closed fit.0 (kids_low g h c is (slot + 1) kids numbered closed fit.1) (inr (kids_use g h c p (items g q) 0 inner numbered closed (inner_fit g (lookup slot (kinds is)) q inner fit.0) u))
kids_use g h c p is slot (kid (made q inner) kids) numbered closed fit (inr u) =
    let inner_fits = inner_fit g (lookup slot (kinds is)) q inner fit.0 in
    let node = node_low g h c q inner numbered inner_fits (kids_low g h c (items g q) 0 inner numbered closed inner_fits) in
    hole_after g h c is slot (target_of g h c p) (made q inner) kids (made_low g h c (lookup slot (kinds is)) q (weight g h (made q inner)) inner closed fit.0 node) (kids_use g h c p is (slot + 1) kids numbered closed fit.1 u)

pub closed_costs_are_low_lem : ClosedCostsAreLow
closed_costs_are_low_lem g h c p (word w) numbered closed shows = absurd shows.fits
closed_costs_are_low_lem g h c p (made q kids) numbered closed shows =
    let fit = shows.fits in
    omega (arith, closed.start, node_uses g h c p g.start q kids numbered closed fit.0 fit.1 (either shows.uses (λ u. kids_use g h c p (items g q) 0 kids numbered closed fit.1 u)))
  where
    either : (q ≡ p) ⊎ SomeUses kids p → (SomeUses kids p → HasHole g h c (items g q) 0 kids (target_of g h c p)) → (q ≡ p) ⊎ HasHole g h c (items g q) 0 kids (target_of g h c p)
    either (inl e) hole = inl e
    either (inr u) hole = inr (hole u)
