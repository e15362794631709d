-- It is decided of each two nonterminals of a built grammar whether they are of one component: which
-- uses there are is decided rule by rule, and which nonterminals are reached by those that may stand
-- between, one more at a time.
use Rattle.std.proofs.Common.{◌≡◌, ◌⊎◌, inl, inr, ℕ, zero, suc, ◌<◌, ◌≤◌, List, ◌∷◌, length, refl, subst, arith}
use Rattle.std.proofs.lemmas.Bool.{cases_lt}
use Rattle.xs_gram.specs.declared.parts.GItem.{GItem}
use Rattle.xs_gram.specs.declared.parts.GItem.TheVariants.{Fixed, Term, Non, Skip}
use Rattle.xs_gram.specs.Grammar.{Grammar, rule_of}
use Rattle.xs_gram.specs.Sound.{IsBuilt}
use Rattle.xs_gram.specs.Fences.{spread, IsPlain, IsLevel, level_none, level_then, level_group, OuterAt}
use Rattle.xs_gram.specs.Loose.{Uses, Reaches, here, onward}
use Rattle.xs_gram.proofs.Levels.{outer_none, outer_here, outer_later, outer_then, outer_after, outer_group}
use Rattle.xs_check_laws.specs.Laws.{ComponentsAreDecided}

same_number : (m n : ℕ) → Dec (m ≡ n)
same_number m n =
    elim (cases_lt m n) [
      | inl less ↦ no (λ e. omega (arith, e))
      | inr at_least ↦ elim (cases_lt n m) [
        | inl more ↦ no (λ e. omega (arith, e))
        | inr at_most ↦ yes (omega arith)
      ]
    ]

-- the nonterminal n is an outer item
abbrev HasOuter : List (ℕ × ℕ) → List GItem → ℕ → Type 0
HasOuter fs is n = (k : ℕ) × (s : ℕ) × OuterAt fs is k (Non n s)

outer_of_rest : {fs : List (ℕ × ℕ)} {i : GItem} {is : List GItem} (n : ℕ) → IsPlain fs i → ((s : ℕ) → i ≡ Non n s → ⊥) → Dec (HasOuter fs is n) → Dec (HasOuter fs (i ∷ is) n)
outer_of_rest n plain other (yes h) = yes (suc h.0, h.1, outer_later plain h.2)
outer_of_rest {fs} {i} {is} n plain other (no h) = no (λ o. by_place o.1 (outer_then plain o.2))
  where
    by_place : {k : ℕ} (s : ℕ) → ((k ≡ 0) × (i ≡ Non n s)) ⊎ ((j : ℕ) × (k ≡ suc j) × OuterAt fs is j (Non n s)) → ⊥
    by_place s (inl e) = other s e.1
    by_place s (inr o) = h (o.0, s, o.2)

non_same : {m n s t : ℕ} → Non m s ≡ Non n t → m ≡ n
non_same e = cc

module _ (g : Grammar) (built : IsBuilt g) where
  outer_decided : (n : ℕ) {is : List GItem} → IsLevel g.fences is → Dec (HasOuter g.fences is n)
  outer_decided n level_none = no (λ h. outer_none h.2)
  outer_decided n (level_then {i = Fixed f} plain l) = outer_of_rest n plain (λ s e. cc) (outer_decided n l)
  outer_decided n (level_then {i = Term t s} plain l) = outer_of_rest n plain (λ s e. cc) (outer_decided n l)
  outer_decided n (level_then {i = Skip k} plain l) = outer_of_rest n plain (λ s e. cc) (outer_decided n l)
  outer_decided n (level_then {i = Non m s} {is = is} plain l) =
      elim (same_number m n) [
        | yes e ↦ yes (0, s, subst (λ (x : ℕ). OuterAt g.fences (Non m s ∷ is) 0 (Non x s)) e (outer_here is plain))
        | no e ↦ outer_of_rest n plain (λ t h. e (non_same h)) (outer_decided n l)
      ]
  outer_decided n (level_group f i l e) =
      elim (outer_decided n l) [
        | yes h ↦ yes (_, h.1, outer_after f i e h.2)
        | no h ↦ no (λ o. let past = outer_group built.proper.once f i e o.2 in h (past.0, o.1, past.2))
      ]

  -- a rule of m before the bound has the outer item n
  abbrev UsesBefore : ℕ → ℕ → ℕ → Type 0
  UsesBefore m n bound = (p : ℕ) × (p < bound) × ((rule_of g p).non ≡ m) × HasOuter g.fences (spread g p) n

  one_more : (m n bound : ℕ) → Dec (UsesBefore m n bound) → Dec ((rule_of g bound).non ≡ m) → Dec (HasOuter g.fences (spread g bound) n) → Dec (UsesBefore m n (suc bound))
  one_more m n bound (yes h) own item = yes (h.0, omega (arith, h.1), h.2, h.3)
  one_more m n bound (no h) (yes own) (yes item) = yes (bound, omega arith, own, item)
  one_more m n bound (no h) (no own) item = no (λ u. elim (cases_lt u.0 bound) [ inl lt ↦ h (u.0, lt, u.2, u.3) | inr ge ↦ let e : u.0 ≡ bound = omega (arith, u.1) in own (subst (λ (p : ℕ). (rule_of g p).non ≡ m) e u.2) ])
  one_more m n bound (no h) (yes own) (no item) = no (λ u. elim (cases_lt u.0 bound) [ inl lt ↦ h (u.0, lt, u.2, u.3) | inr ge ↦ let e : u.0 ≡ bound = omega (arith, u.1) in item (subst (λ (p : ℕ). HasOuter g.fences (spread g p) n) e u.3) ])

  uses_before : (m n bound : ℕ) → Dec (UsesBefore m n bound)
  uses_before m n zero = no (λ u. omega (arith, u.1))
  uses_before m n (suc bound) = one_more m n bound (uses_before m n bound) (same_number (rule_of g bound).non m) (outer_decided n (built.proper.level bound))

  uses_decided : (m n : ℕ) → Dec (Uses g m n)
  uses_decided m n =
      elim (uses_before m n (length g.rules)) [
        | yes u ↦ yes record { rule = u.0; dot = u.3.0; slot = u.3.1; of = (u.1, u.2); item = u.3.2 }
        | no u ↦ no (λ h. u (h.rule, h.of.0, h.of.1, (h.dot, h.slot, h.item)))
      ]

  -- n is m, or used by m, or reached by steps through nonterminals below the bound
  abbrev Through : ℕ → ℕ → ℕ → Type 0
  Through zero m n = (m ≡ n) ⊎ Uses g m n
  Through (suc k) m n = Through k m n ⊎ (Through k m k × Through k k n)

  through_decided : (k m n : ℕ) → Dec (Through k m n)
  through_decided zero m n =
      elim (same_number m n) [ yes e ↦ yes (inl e) | no e ↦ elim (uses_decided m n) [ yes u ↦ yes (inr u) | no u ↦ no (λ h. elim h [ inl x ↦ e x | inr y ↦ u y ]) ] ]
  through_decided (suc k) m n =
      elim (through_decided k m n) [
        | yes h ↦ yes (inl h)
        | no h ↦ elim (through_decided k m k) [
          | no a ↦ no (λ t. elim t [ inl x ↦ h x | inr y ↦ a y.0 ])
          | yes a ↦ elim (through_decided k k n) [ yes b ↦ yes (inr (a, b)) | no b ↦ no (λ t. elim t [ inl x ↦ h x | inr y ↦ b y.1 ]) ]
        ]
      ]

  reaches_then : {m n k : ℕ} → Reaches g m n → Reaches g n k → Reaches g m k
  reaches_then here r = r
  reaches_then (onward u t) r = onward u (reaches_then t r)

  through_reaches : (k m n : ℕ) → Through k m n → Reaches g m n
  through_reaches zero m n (inl e) = subst (λ (x : ℕ). Reaches g m x) e here
  through_reaches zero m n (inr u) = onward u here
  through_reaches (suc k) m n (inl h) = through_reaches k m n h
  through_reaches (suc k) m n (inr h) = reaches_then (through_reaches k m k h.0) (through_reaches k k n h.1)

  through_more : (k m n : ℕ) → (m ≡ n) ⊎ Uses g m n → Through k m n
  through_more zero m n h = h
  through_more (suc k) m n h = inl (through_more k m n h)

  below : (k m a n : ℕ) → ((b c : ℕ) → Through k b a → Through k a c → Through k b c) → Through (suc k) m a → Through (suc k) a n → Through (suc k) m n
  below k m a n on (inl x) (inl y) = inl (on m n x y)
  below k m a n on (inr x) (inl y) = inr (x.0, on k n x.1 y)
  below k m a n on (inl x) (inr y) = inr (on m k x y.0, y.1)
  below k m a n on (inr x) (inr y) = inr (x.0, y.1)

  last : (k m n : ℕ) → Through (suc k) m k → Through (suc k) k n → Through (suc k) m n
  last k m n (inl x) (inl y) = inr (x, y)
  last k m n (inr x) (inl y) = inr (x.0, y)
  last k m n (inl x) (inr y) = inr (x, y.1)
  last k m n (inr x) (inr y) = inr (x.0, y.1)

  -- what is reached through a nonterminal below the bound
  through_on : (k m a n : ℕ) → a < k → Through k m a → Through k a n → Through k m n
  through_on zero m a n lt x y = absurd (omega arith)
  through_on (suc k) m a n lt x y =
      elim (cases_lt a k) [
        | inl less ↦ below k m a n (λ b c. through_on k b a c less) x y
        | inr ge ↦ let e : a ≡ k = omega arith in last k m n (subst (λ (b : ℕ). Through (suc k) m b) e x) (subst (λ (b : ℕ). Through (suc k) b n) e y)
      ]

  -- no rule is of a number that is no nonterminal
  alone : {m n : ℕ} → g.nons ≤ m → Reaches g m n → m ≡ n
  alone out here = refl
  alone {m} out (onward u t) = let low : m < g.nons = subst (λ (k : ℕ). k < g.nons) u.of.1 (built.range.rules u.rule u.of.0) in absurd (omega arith)

  reaches_through : {m n : ℕ} → Reaches g m n → Through g.nons m n
  reaches_through {m} here = through_more g.nons m m (inl refl)
  reaches_through {m} {n} (onward {n = a} u t) =
      elim (cases_lt a g.nons) [
        | inl low ↦ through_on g.nons m a n low (through_more g.nons m a (inr u)) (reaches_through t)
        | inr out ↦ through_more g.nons m n (inr (subst (λ (x : ℕ). Uses g m x) (alone out t) u))
      ]

  reaches_decided : (m n : ℕ) → Dec (Reaches g m n)
  reaches_decided m n = elim (through_decided g.nons m n) [ yes h ↦ yes (through_reaches g.nons m n h) | no h ↦ no (λ r. h (reaches_through r)) ]

pub components_decided : ComponentsAreDecided
components_decided g built m n =
    elim (reaches_decided g built m n) [
      | no h ↦ no (λ o. h o.0)
      | yes a ↦ elim (reaches_decided g built n m) [ yes b ↦ yes (a, b) | no h ↦ no (λ o. h o.1) ]
    ]
