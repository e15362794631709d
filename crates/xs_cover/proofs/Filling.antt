-- A node whose slots are filled: it fits its production, and weighs what its slots may cost.
use Rattle.std.proofs.Common.{◌≡◌, ◌≢◌, inl, inr, ℕ, zero, suc, ◌+◌, ◌<◌, ◌≤◌, ◌==◌, List, [], ◌∷◌, length, refl, sym, subst, ◌∙◌, ap, arith, Some, if◌then◌else◌}
use Rattle.std.proofs.lemmas.Bool.Decides.{eqb_tells}
use Rattle.xs_class.proofs.Truth.{if_true, if_false, eq_self}
use Rattle.xs_gram.proofs.Printed.{kids_long, kinds_long, keys-kinds}
use Rattle.xs_gram.proofs.Entries.{found}
use Rattle.xs_gram.specs.declared.parts.GItem.{GItem}
use Rattle.xs_gram.specs.Grammar.{Grammar, items, slots}
use Rattle.xs_gram.specs.Common.{Common, Kids, Kind, made, no_kid, kid, lookup, kinds, KidsFit, KidFits}
use Rattle.xs_gram.specs.Laws.{IsNumbered, HasNumberedSlots}
use Rattle.xs_tree.specs.Flat.{tree_at, kids_at}
use Rattle.xs_cover.specs.Sizes.{capped, weight, kids_weight, own_length, Uses, SomeUses}
use Rattle.xs_cover.specs.Costs.{Costs, rule_cost}
use Rattle.xs_cover.specs.Tables.{at}
use Rattle.xs_cover.proofs.Sums.{sum_from}
use Rattle.xs_cover.proofs.Costs.{cost_at, slots_sum}

-- the children at that many slots from one on
abbrev pub fill : (ℕ → Common) → ℕ → ℕ → Kids
fill f slot zero = no_kid
fill f slot (suc count) = kid (f slot) (fill f (slot + 1) count)

fill_long : (f : ℕ → Common) (slot count : ℕ) → kids_long (fill f slot count) ≡ count
fill_long f slot zero = refl
fill_long f slot (suc count) = ap suc (fill_long f (slot + 1) count)

pub fill_fits : (g : Grammar) (is : List GItem) (f : ℕ → Common) (slot count : ℕ) → slot + count ≡ length (kinds is) → ((s : ℕ) → s < length (kinds is) → KidFits g (lookup s (kinds is)) (f s)) → KidsFit g is slot (fill f slot count)
fill_fits g is f slot zero e fits = omega (arith, e)
fill_fits g is f slot (suc count) e fits = (fits slot (omega (arith, e)), fill_fits g is f (slot + 1) count (omega (arith, e)) fits)

fill_weight : (g h : Grammar) (f : ℕ → Common) (b : ℕ → ℕ) (slot count : ℕ) → ((s : ℕ) → slot ≤ s → s < slot + count → capped (weight g h (f s)) ≤ b s) → capped (kids_weight g h (fill f slot count)) ≤ sum_from b slot count
fill_weight g h f b slot zero light = omega arith
fill_weight g h f b slot (suc count) light =
    let here : capped (weight g h (f slot)) ≤ b slot = light slot (omega arith) (omega arith) in
    let rest : capped (kids_weight g h (fill f (slot + 1) count)) ≤ sum_from b (slot + 1) count = fill_weight g h f b (slot + 1) count (λ s low high. light s (omega (arith, low)) (omega (arith, high))) in
    omega (arith, here, rest)

fill_uses : (f : ℕ → Common) (p s slot count : ℕ) → slot ≤ s → s < slot + count → Uses (f s) p → SomeUses (fill f slot count) p
fill_uses f p s slot zero low high uses = absurd (omega (arith, low, high))
fill_uses f p s slot (suc count) low high uses = elim (eqb_tells s slot) [
  | inl (one, same) ↦ inl (subst (λ k. Uses (f k) p) same uses)
  | inr (two, ne) ↦ inr (fill_uses f p s (slot + 1) count (omega (arith, low, ne)) (omega (arith, high)) uses)
]

-- children at the numbers of a list
pub filled_at : (trees : List Common) (f : ℕ → Common) (slot : ℕ) (ks : List ℕ) → ((j : ℕ) → f (slot + j) ≡ tree_at trees (at ks j)) → kids_at trees ks ≡ fill f slot (length ks)
filled_at trees f slot [] same = refl
filled_at trees f slot (k ∷ ks) same =
    let here : tree_at trees k ≡ f slot = sym (same 0) ∙ ap f (omega arith) in
    let rest : kids_at trees ks ≡ fill f (slot + 1) (length ks) = filled_at trees f (slot + 1) ks (λ j. ap f (omega arith) ∙ same (suc j)) in
    ap (λ t. kid t (kids_at trees ks)) here ∙ ap (λ l. kid (f slot) l) rest

-- what stands at a slot
pub kind_at : (is : List GItem) → IsNumbered (slots is) → (s : ℕ) → s < length (kinds is) → (kind : Kind) × (lookup s (kinds is) ≡ Some kind)
kind_at is numbered s h = found (kinds is) (subst IsNumbered (sym (keys-kinds is)) numbered) s h

-- a node with these children, none heavier than its bound
pub record IsFilled (g h : Grammar) (p : ℕ) (kids : Kids) (bound : ℕ) : Type 0 where
  pub fits : KidsFit g (items g p) 0 kids
  pub light : capped (weight g h (made p kids)) ≤ bound

pub filled : (g h : Grammar) (p : ℕ) (f : ℕ → Common) (b : ℕ → ℕ) → ((s : ℕ) → s < length (kinds (items g p)) → KidFits g (lookup s (kinds (items g p))) (f s)) → ((s : ℕ) → s < length (kinds (items g p)) → capped (weight g h (f s)) ≤ b s)
    → IsFilled g h p (fill f 0 (length (kinds (items g p)))) (own_length g h p + sum_from b 0 (length (kinds (items g p))))
filled g h p f b fits light =
    let count = length (kinds (items g p)) in
    let rest : capped (kids_weight g h (fill f 0 count)) ≤ sum_from b 0 count = fill_weight g h f b 0 count (λ s low high. light s (omega (arith, high))) in
    record { fits = fill_fits g (items g p) f 0 count (omega arith) fits; light = omega (arith, rest) }

-- the slots of a rule cost the sum of their costs
pub rule_sum : (g h : Grammar) (c : Costs) (p : ℕ) → HasNumberedSlots g → rule_cost g h c p ≡ own_length g h p + sum_from (cost_at c (items g p)) 0 (length (kinds (items g p)))
rule_sum g h c p numbered =
    ap (λ n. own_length g h p + n) (slots_sum g c p numbered ∙ ap (λ n. sum_from (cost_at c (items g p)) 0 n) (sym (kinds_long (items g p))))

-- sums that differ at one number
sum_same : (a b : ℕ → ℕ) (k n : ℕ) → ((s : ℕ) → k ≤ s → a s ≡ b s) → sum_from a k n ≡ sum_from b k n
sum_same a b k zero same = refl
sum_same a b k (suc n) same = omega (arith, same k (omega arith), sum_same a b (k + 1) n (λ s h. same s (omega (arith, h))))

pub sum_but : (a b : ℕ → ℕ) (s k n : ℕ) → k ≤ s → s < k + n → ((j : ℕ) → j ≢ s → a j ≡ b j) → sum_from a k n + b s ≡ sum_from b k n + a s
sum_but a b s k zero low high same = absurd (omega (arith, low, high))
sum_but a b s k (suc n) low high same = elim (eqb_tells k s) [
  | inl (one, here) ↦
      let rest : sum_from a (k + 1) n ≡ sum_from b (k + 1) n = sum_same a b (k + 1) n (λ j h. same j (λ e. absurd (omega (arith, h, e, here)))) in
      omega (arith, rest, ap a here, ap b here)
  | inr (two, ne) ↦ omega (arith, same k ne, sum_but a b s (k + 1) n (omega (arith, low, ne)) (omega (arith, high)) same)
]

-- one slot is filled by another tree
abbrev pub but : {A : Type 0} → ℕ → A → (ℕ → A) → ℕ → A
but s x f j = if j == s then x else f j

pub but_here : {A : Type 0} (s : ℕ) (x : A) (f : ℕ → A) → but s x f s ≡ x
but_here s x f = if_true (s == s) x (f s) (eq_self s)

pub but_other : {A : Type 0} (s j : ℕ) (x : A) (f : ℕ → A) → j ≢ s → but s x f j ≡ f j
but_other s j x f ne = elim (eqb_tells j s) [
  | inl (one, same) ↦ absurd (ne same)
  | inr (two, apart) ↦ if_false (j == s) x (f j) two
]

-- what stands at the slots: it fits, and is not heavier than the kind costs
pub record IsChoice (g h : Grammar) (c : Costs) (is : List GItem) (f : ℕ → Common) : Type 0 where
  pub fits : (s : ℕ) → s < length (kinds is) → KidFits g (lookup s (kinds is)) (f s)
  pub light : (s : ℕ) → s < length (kinds is) → capped (weight g h (f s)) ≤ cost_at c is s

pub node_filled : (g h : Grammar) (c : Costs) (p : ℕ) (f : ℕ → Common) → HasNumberedSlots g → IsChoice g h c (items g p) f → IsFilled g h p (fill f 0 (length (kinds (items g p)))) (rule_cost g h c p)
node_filled g h c p f numbered choice = subst (λ n. IsFilled g h p (fill f 0 (length (kinds (items g p)))) n) (sym (rule_sum g h c p numbered)) (filled g h p f (cost_at c (items g p)) choice.fits choice.light)

-- a node with a tree put at one slot: it uses what the tree uses, and the slot costs what the tree weighs
pub record IsAroundTree (g h : Grammar) (c : Costs) (p s : ℕ) (t : Common) (kids : Kids) : Type 0 where
  pub fits : KidsFit g (items g p) 0 kids
  pub uses : (q : ℕ) → Uses t q → SomeUses kids q
  pub light : capped (weight g h (made p kids)) + cost_at c (items g p) s ≤ rule_cost g h c p + capped (weight g h t)

pub node_around : (g h : Grammar) (c : Costs) (p s : ℕ) (kind : Kind) (t : Common) (f : ℕ → Common) → HasNumberedSlots g → IsChoice g h c (items g p) f → lookup s (kinds (items g p)) ≡ Some kind → s < length (kinds (items g p)) → KidFits g (Some kind) t
    → IsAroundTree g h c p s t (fill (but s t f) 0 (length (kinds (items g p))))
node_around g h c p s kind t f numbered choice at_slot h_below fits_t = record {
  fits = node.fits;
  uses = λ q uses. fill_uses (but s t f) q s 0 count (omega arith) (omega (arith, h_below)) (subst (λ u. Uses u q) (sym (but_here s t f)) uses);
  light = omega (arith, node.light, sum, rule_sum g h c p numbered, but_here s (capped (weight g h t)) b);
}
  where
    is : List GItem
    is = items g p

    count : ℕ
    count = length (kinds (items g p))

    b : ℕ → ℕ
    b = cost_at c (items g p)

    fits : (j : ℕ) → j < length (kinds (items g p)) → KidFits g (lookup j (kinds (items g p))) (but s t f j)
    fits j below = elim (eqb_tells j s) [
      | inl (one, same) ↦
          let there : lookup j (kinds (items g p)) ≡ Some kind = ap (λ k. lookup k (kinds (items g p))) same ∙ at_slot in
          subst (λ u. KidFits g (lookup j (kinds (items g p))) u) (sym (ap (λ k. but s t f k) same ∙ but_here s t f)) (subst (λ o. KidFits g o t) (sym there) fits_t)
      | inr (two, ne) ↦ subst (λ u. KidFits g (lookup j (kinds (items g p))) u) (sym (but_other s j t f ne)) (choice.fits j below)
    ]

    light : (j : ℕ) → j < length (kinds (items g p)) → capped (weight g h (but s t f j)) ≤ but s (capped (weight g h t)) (cost_at c (items g p)) j
    light j below = elim (eqb_tells j s) [
      | inl (one, same) ↦
          let left : but s t f j ≡ t = ap (λ k. but s t f k) same ∙ but_here s t f in
          let right : but s (capped (weight g h t)) (cost_at c (items g p)) j ≡ capped (weight g h t) = ap (λ k. but s (capped (weight g h t)) (cost_at c (items g p)) k) same ∙ but_here s (capped (weight g h t)) (cost_at c (items g p)) in
          omega (arith, ap (λ u. capped (weight g h u)) left, right)
      | inr (two, ne) ↦ omega (arith, choice.light j below, ap (λ u. capped (weight g h u)) (but_other s j t f ne), but_other s j (capped (weight g h t)) (cost_at c (items g p)) ne)
    ]

    node : IsFilled g h p (fill (but s t f) 0 (length (kinds (items g p)))) (own_length g h p + sum_from (but s (capped (weight g h t)) (cost_at c (items g p))) 0 (length (kinds (items g p))))
    node = filled g h p (but s t f) (but s (capped (weight g h t)) (cost_at c (items g p))) fits light

    sum : sum_from (but s (capped (weight g h t)) b) 0 count + b s ≡ sum_from b 0 count + but s (capped (weight g h t)) b s
    sum = sum_but (but s (capped (weight g h t)) b) b s 0 count (omega arith) (omega (arith, h_below)) (λ j ne. but_other s j (capped (weight g h t)) b ne)
