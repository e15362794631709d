-- Each number below the count is that of an unfolding, different numbers are of different unfoldings, and where the count is below the cap each unfolding has one.
use Rattle.std.proofs.Common.{◌≡◌, ℕ, zero, suc, ◌+◌, ◌-◌, ◌*◌, ◌<◌, ◌≤◌, List, [], ◌∷◌, length, take, Option, Some, None, refl, sym, ap, ◌∙◌, arith, subst, inl, inr}
use Rattle.std.proofs.Math.Nat.{suc-mul}
use Rattle.std.proofs.lemmas.Bool.{cases_lt}
use Rattle.std.specs.Prelude.{slice_get}
use Rattle.xs_class.proofs.Lists.{get_of, contains_of, one_cell}
use Rattle.xs_gram.specs.Grammar.{Grammar}
use Rattle.xs_forest.specs.declared.row.Alt.{Alt}
use Rattle.xs_forest_laws.specs.Forest.{Forest, alts_of, Unfolding, bare, pick, Unfolds, IsRight}
use Rattle.xs_forest_laws.specs.Number.{count_of, alt_count, alts_count, alts_sum, IsCounted, At}
use Rattle.xs_forest_laws.proofs.Children.{IsBefore, children_before}
use Rattle.xs_forest_laws.proofs.Once.{pick_is}
pub use Rattle.xs_class.proofs.Lists.{one_cell as place_one}
pub use Rattle.xs_class.proofs.Lists.{contains_of}

-- a number below a product, as a place in rows of d
pub place_of : (c d k : ℕ) → k < c * d → (x : ℕ) × (y : ℕ) × (x < c) × (y < d) × (k ≡ x * d + y)
place_of zero d k h = let e : zero * d ≡ 0 = omega arith in absurd (omega arith)
place_of (suc c) d k h = elim (cases_lt k d) [
  | inl lt ↦ (0, k, omega arith, lt, omega arith)
  | inr ge ↦
      let e = suc-mul c d in
      let r = place_of c d (k - d) (omega arith) in
      let e' = suc-mul r.0 d in
      (suc r.0, r.1, omega (arith, r.2), r.3, omega (arith, r.4))
]

pub place_lt : (c d x y : ℕ) → x < c → y < d → x * d + y < c * d
place_lt zero d x y h k = absurd (omega arith)
place_lt (suc c) d zero y h k = let e = suc-mul c d in let e' : zero * d ≡ 0 = omega arith in omega arith
place_lt (suc c) d (suc x) y h k = let e = suc-mul c d in let e' = suc-mul x d in let ih = place_lt c d x y (omega arith) k in omega arith

factor_le : (c d : ℕ) → 1 ≤ d → c ≤ c * d
factor_le zero d h = omega arith
factor_le (suc c) d h = let e = suc-mul c d in let ih = factor_le c d h in omega arith

factor_le' : (c d : ℕ) → 1 ≤ c → d ≤ c * d
factor_le' zero d h = absurd (omega arith)
factor_le' (suc c) d h = let e = suc-mul c d in omega arith

module _ (cap : ℕ) (cs : List ℕ) where
  -- the alternative in which a number lies
  choose : (more : List Alt) (k : ℕ) → k < alts_count cap cs more → (n : ℕ) × (a : Alt) × (j : ℕ) × (slice_get more n ≡ Some a) × (k ≡ alts_sum cap cs (take n more) + j) × (j < alt_count cap cs a)
  choose [] k h = absurd (omega arith)
  choose (a ∷ more) k h = elim (cases_lt k (alt_count cap cs a)) [
    | inl lt ↦ (0, a, k, refl, omega arith, lt)
    | inr ge ↦
        let r = choose more (k - alt_count cap cs a) (omega arith) in
        (suc r.0, r.1, r.2, r.3, omega (arith, r.4), r.5)
  ]

  count_sum : (more : List Alt) → alts_count cap cs more < cap → alts_sum cap cs more ≡ alts_count cap cs more
  count_sum [] h = refl
  count_sum (a ∷ more) h = let ih = count_sum more (omega arith) in omega arith

  within : (more : List Alt) (n : ℕ) (a : Alt) → slice_get more n ≡ Some a → alts_sum cap cs (take n more) + alt_count cap cs a ≤ alts_sum cap cs more
  within [] n a e = cc
  within (b ∷ more) zero a e = let same : b ≡ a = cc in let e' : alt_count cap cs b ≡ alt_count cap cs a = ap (alt_count cap cs) same in omega arith
  within (b ∷ more) (suc n) a e = omega (arith, within more n a e)

  some_alt : (more : List Alt) (n : ℕ) (a : Alt) → 1 ≤ cap → slice_get more n ≡ Some a → 1 ≤ alt_count cap cs a → 1 ≤ alts_count cap cs more
  some_alt [] n a c e h = cc
  some_alt (b ∷ more) zero a c e h = let same : b ≡ a = cc in let e' : alt_count cap cs b ≡ alt_count cap cs a = ap (alt_count cap cs) same in omega arith
  some_alt (b ∷ more) (suc n) a c e h = omega (arith, some_alt more n a c e h)

  -- the places of two numbers that are the same
  pub alt_one : (more : List Alt) (n m : ℕ) (a b : Alt) (x y : ℕ) → slice_get more n ≡ Some a → slice_get more m ≡ Some b → x < alt_count cap cs a → y < alt_count cap cs b → alts_sum cap cs (take n more) + x ≡ alts_sum cap cs (take m more) + y → (n ≡ m) × (a ≡ b) × (x ≡ y)
  alt_one [] n m a b x y e h lx ly s = cc
  alt_one (c ∷ more) zero zero a b x y e h lx ly s = (refl, cc, omega arith)
  alt_one (c ∷ more) zero (suc m) a b x y e h lx ly s =
      let same : c ≡ a = cc in
      let e' : alt_count cap cs c ≡ alt_count cap cs a = ap (alt_count cap cs) same in
      absurd (omega arith)
  alt_one (c ∷ more) (suc n) zero a b x y e h lx ly s =
      let same : c ≡ b = cc in
      let e' : alt_count cap cs c ≡ alt_count cap cs b = ap (alt_count cap cs) same in
      absurd (omega arith)
  alt_one (c ∷ more) (suc n) (suc m) a b x y e h lx ly s =
      let r = alt_one more n m a b x y e h lx ly (omega arith) in
      (ap suc r.0, r.1, r.2)

module _ (f : Forest) (cap : ℕ) (cs : List ℕ) where
  -- one number has only one unfolding
  pub one_at : (o : Option ℕ) (k : ℕ) (u v : Unfolding) → At f cap cs o k u → At f cap cs o k v → u ≡ v
  one_at None k bare bare h i = refl
  one_at None k bare (pick b s q) h i = absurd i
  one_at None k (pick a l t) v h i = absurd h
  one_at (Some r) k bare v h i = absurd h
  one_at (Some r) k (pick a l t) bare h i = absurd i
  one_at (Some r) k (pick a l t) (pick b s q) (lt, n, x, y, e, by, bx, ek, hl, ht) (lt', n', x', y', e', by', bx', ek', hl', ht') =
      let c = alt_one cap cs (alts_of f r) n n' a b (x * count_of cs a.right + y) (x' * count_of cs b.right + y') e e' bx bx' (sym ek ∙ ek') in
      let er : count_of cs a.right ≡ count_of cs b.right = ap (λ (z : Alt). count_of cs z.right) c.1 in
      let same : x * count_of cs a.right + y ≡ x' * count_of cs a.right + y' = subst (λ z. x * count_of cs a.right + y ≡ x' * z + y') (sym er) c.2 in
      let p = one_cell (count_of cs a.right) x y x' y' by (subst (λ z. y' < z) (sym er) by') same in
      let l' : At f cap cs a.left x s = subst (λ z. At f cap cs a.left z s) (sym p.0) (subst (λ (z : Alt). At f cap cs z.left x' s) (sym c.1) hl') in
      let t' : At f cap cs a.right y q = subst (λ z. At f cap cs a.right z q) (sym p.1) (subst (λ (z : Alt). At f cap cs z.right y' q) (sym c.1) ht') in
      pick_is a b l s t q c.1 (one_at a.left x l s hl l') (one_at a.right y t q ht t')

  -- what has a number is an unfolding
  pub at_unfolds : (o : Option ℕ) (k : ℕ) (u : Unfolding) → At f cap cs o k u → Unfolds f o u
  at_unfolds None k bare h = tt
  at_unfolds None k (pick a l t) h = h
  at_unfolds (Some r) k bare h = h
  at_unfolds (Some r) k (pick a l t) (lt, n, x, y, e, by, bx, ek, hl, ht) = (lt, contains_of (alts_of f r) n a e, at_unfolds a.left x l hl, at_unfolds a.right y t ht)

module _ (g : Grammar) (w : List ℕ) (f : Forest) (right : IsRight g w f) (cap : ℕ) (cs : List ℕ) where
  -- an unfolding has only one number
  pub at_one : (o : Option ℕ) (k j : ℕ) (u : Unfolding) → At f cap cs o k u → At f cap cs o j u → k ≡ j
  at_one None k j bare h i = h ∙ sym i
  at_one None k j (pick a l t) h i = absurd h
  at_one (Some r) k j bare h i = absurd h
  at_one (Some r) k j (pick a l t) (lt, n, x, y, e, by, bx, ek, hl, ht) (lt', n', x', y', e', by', bx', ek', hl', ht') =
      let en = right.once r n n' a lt e e' in
      let ex = at_one a.left x x' l hl hl' in
      let ey = at_one a.right y y' t ht ht' in
      ek ∙ rw (en, ex, ey) (sym ek')

  module _ (counted : IsCounted f cap cs) where
    -- each number below the count is that of an unfolding
    pub number : (n : ℕ) (o : Option ℕ) (k : ℕ) → IsBefore f o n → k < count_of cs o → (u : Unfolding) × At f cap cs o k u
    number n None k h lt = (bare, omega arith)
    number zero (Some r) k h lt = absurd (omega (arith, h.0))
    number (suc n) (Some r) k h lt =
        let e = counted r h.1 in
        let c = choose cap cs (alts_of f r) k (omega arith) in
        let a = c.1 in
        let there = contains_of (alts_of f r) c.0 a c.3 in
        let p = place_of (count_of cs a.left) (count_of cs a.right) c.2 (omega (arith, c.5)) in
        let before = children_before g w f right r n a h.0 h.1 there in
        let l = number n a.left p.0 before.0 p.2 in
        let t = number n a.right p.1 before.1 p.3 in
        (pick a l.0 t.0, (h.1, c.0, p.0, p.1, c.3, p.3, omega (arith, p.4, c.5), c.4 ∙ ap (λ z. alts_sum cap cs (take c.0 (alts_of f r)) + z) p.4, l.1, t.1))

    pub numbered : (o : Option ℕ) → IsBefore f o (length f) → (k : ℕ) → k < count_of cs o → (u : Unfolding) × At f cap cs o k u
    numbered o h k lt = number (length f) o k h lt

    -- what has an unfolding has a count
    some_count : 1 ≤ cap → (o : Option ℕ) (u : Unfolding) → Unfolds f o u → 1 ≤ count_of cs o
    some_count c None u h = omega arith
    some_count c (Some r) bare h = absurd h
    some_count c (Some r) (pick a l t) (lt, there, hl, ht) =
        let il = some_count c a.left l hl in
        let item = some_count c a.right t ht in
        let m = factor_le (count_of cs a.left) (count_of cs a.right) item in
        let n = get_of (alts_of f r) a there in
        let e = counted r lt in
        let s = some_alt cap cs (alts_of f r) n.0 a c n.1 (omega arith) in
        omega arith

    -- where the count is below the cap, each unfolding has a number below it
    pub all_numbered : (o : Option ℕ) (u : Unfolding) → Unfolds f o u → count_of cs o < cap → (k : ℕ) × (k < count_of cs o) × At f cap cs o k u
    all_numbered None bare h lt = (0, omega arith, refl)
    all_numbered None (pick a l t) h lt = absurd h
    all_numbered (Some r) bare h lt = absurd h
    all_numbered (Some r) (pick a l t) (lf, there, hl, ht) lt =
        let e = counted r lf in
        let n = get_of (alts_of f r) a there in
        let sum = count_sum cap cs (alts_of f r) (omega arith) in
        let win = within cap cs (alts_of f r) n.0 a n.1 in
        let il = some_count (omega arith) a.left l hl in
        let item = some_count (omega arith) a.right t ht in
        let ml = factor_le (count_of cs a.left) (count_of cs a.right) item in
        let mt = factor_le' (count_of cs a.left) (count_of cs a.right) il in
        let x = all_numbered a.left l hl (omega arith) in
        let y = all_numbered a.right t ht (omega arith) in
        let pl = place_lt (count_of cs a.left) (count_of cs a.right) x.0 y.0 x.1 y.1 in
        (alts_sum cap cs (take n.0 (alts_of f r)) + (x.0 * count_of cs a.right + y.0), omega arith, (lf, n.0, x.0, y.0, n.1, y.1, omega arith, refl, x.2, y.2))
