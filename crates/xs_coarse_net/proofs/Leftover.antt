-- What is left of a net for a set of nonterminals.
use Rattle.std.proofs.Common.{◌≡◌, inl, inr, ℕ, zero, suc, ◌-◌, Bool, true, false, List, [], ◌∷◌, get_or, refl, sym, ap, subst, arith}
use Rattle.std.specs.Prelude.{nat_lt, if◌then◌else◌}
use Rattle.std.proofs.lemmas.Bool.{lt-ltb, le-ltb}
use Rattle.std.specs.List.{All, Contains}
use Rattle.std.proofs.lemmas.List.Elements.{All-contains, Contains-append_cases, Contains-append_left, Contains-append_right, Contains-get_or}
use Rattle.xs_class.proofs.Lists.{first_in, rest_in}
use Rattle.xs_coarse.specs.declared.arc.Arc.{Arc}
use Rattle.xs_coarse.specs.Coarse.{Net, IsWithin, HasArc}
use Rattle.xs_coarse_net.specs.Reaching.{IsRestricted, left_arc, left_arcs, left_net}
use Rattle.xs_coarse_net.proofs.Rows.{none_in, one_in}

-- each arc of which something is left has it in what is left of a list, and nothing else is
pub left_in : (has : List Bool) (xs : List Arc) (x y : Arc) → Contains xs x → Contains (left_arc has x) y → Contains (left_arcs has xs) y
left_in has [] x y h there = absurd (none_in x h)
left_in has (z ∷ zs) x y (zero, lt, e) there = Contains-append_left (left_arc has z) (left_arcs has zs) y (subst (λ (v : Arc). Contains (left_arc has v) y) (sym e) there)
left_in has (z ∷ zs) x y (suc n, lt, e) there = Contains-append_right (left_arc has z) (left_arcs has zs) y (left_in has zs x y (n, omega (arith, lt), e) there)

pub record IsLeftOf (has : List Bool) (xs : List Arc) (y : Arc) : Type 0 where
  pub arc : Arc
  pub there : Contains xs arc
  pub left : Contains (left_arc has arc) y

pub left_of : (has : List Bool) (xs : List Arc) (y : Arc) → Contains (left_arcs has xs) y → IsLeftOf has xs y
left_of has [] y h = absurd (none_in y h)
left_of has (z ∷ zs) y h = elim (Contains-append_cases (left_arc has z) (left_arcs has zs) y h) [
  | inl here ↦ record { arc = z; there = first_in z zs; left = here }
  | inr later ↦
      let was = left_of has zs y later in
      record { arc = was.arc; there = rest_in z zs was.arc was.there; left = was.left }
]

-- what is left of an arc leads from and to the same states
pub record IsAlong (x y : Arc) : Type 0 where
  pub from : y.from ≡ x.from
  pub to : y.to ≡ x.to

choice_along : (b c : Bool) (x y : Arc) → Contains (if b then x ∷ [] else (if c then record { from = x.from; label = 0; to = x.to } ∷ [] else [])) y → IsAlong x y
choice_along true c x y h = let e = one_in x y h in record { from = ap (λ (z : Arc). z.from) e; to = ap (λ (z : Arc). z.to) e }
choice_along false true x y h = let e = one_in (record { from = x.from; label = 0; to = x.to }) y h in record { from = ap (λ (z : Arc). z.from) e; to = ap (λ (z : Arc). z.to) e }
choice_along false false x y h = absurd (none_in y h)

pub left_along : (has : List Bool) (x y : Arc) → Contains (left_arc has x) y → IsAlong x y
left_along has x y h = choice_along (nat_lt x.label 65536) (get_or has (x.label - 65536) false) x y h

-- what is left of an arc of each kind
choice_plain : (b c : Bool) (x y : Arc) → b ≡ true → Contains (if b then x ∷ [] else (if c then y ∷ [] else [])) x
choice_plain b c x y e = rw e (first_in x [])

choice_back : (b c : Bool) (x y : Arc) → b ≡ false → c ≡ true → Contains (if b then x ∷ [] else (if c then y ∷ [] else [])) y
choice_back b c x y e f = rw (e, f) (first_in y [])

pub left_restricted : (has : List Bool) (n : Net) → IsRestricted has n (left_net has n)
left_restricted has n = record {
  states = refl;
  kept = λ x h. record {
    plain = λ low. left_in has n.arcs x x h (choice_plain (nat_lt x.label 65536) (get_or has (x.label - 65536) false) x (record { from = x.from; label = 0; to = x.to }) (lt-ltb x.label 65536 low));
    returns = λ high own. left_in has n.arcs x (record { from = x.from; label = 0; to = x.to }) h (choice_back (nat_lt x.label 65536) (get_or has (x.label - 65536) false) x (record { from = x.from; label = 0; to = x.to }) (le-ltb x.label 65536 high) own);
  };
}

-- all that is left is within the net
pub left_within : (has : List Bool) (n : Net) → All (IsWithin n.states) n.arcs → All (IsWithin n.states) (left_arcs has n.arcs)
left_within has n within = all_each (left_arcs has n.arcs) (λ y h.
    let was = left_of has n.arcs y h in
    let along = left_along has was.arc y was.left in
    let inside = All-contains (IsWithin n.states) n.arcs was.arc within was.there in
    record { from = omega (arith, along.from, inside.from); to = omega (arith, along.to, inside.to) })
  where
    all_each : (ys : List Arc) → ((y : Arc) → Contains ys y → IsWithin n.states y) → All (IsWithin n.states) ys
    all_each ys each = λ k d low. each (get_or ys k d) (Contains-get_or ys k d low)

-- the row of a state has each arc from it
pub row_there : (n : Net) (state : ℕ) (row : List Arc) → ((label y : ℕ) → HasArc n state label y → Contains row (record { from = state; label = label; to = y })) → (x : Arc) → x.from ≡ state → Contains n.arcs x → Contains row x
row_there n state row complete x e h =
    let same : x ≡ record { from = state; label = x.label; to = x.to } = ap (λ (f : ℕ). record { from = f; label = x.label; to = x.to }) e in
    subst (λ (y : Arc). Contains row y) (sym same) (complete x.label x.to (subst (λ (y : Arc). Contains n.arcs y) same h))

-- the row of a state has all of which something is left for the state
pub row_left : (has : List Bool) (n : Net) (state : ℕ) (row : List Arc) → ((label y : ℕ) → HasArc n state label y → Contains row (record { from = state; label = label; to = y })) → (label y : ℕ) → HasArc (left_net has n) state label y → Contains (left_arcs has row) (record { from = state; label = label; to = y })
row_left has n state row complete label y h =
    let was = left_of has n.arcs _ h in
    let along = left_along has was.arc _ was.left in
    left_in has row was.arc _ (row_there n state row complete was.arc (sym along.from) was.there) was.left

-- what holds of all that is left of each arc of a row
pub row_each : (P : Arc → Type 0) (has : List Bool) (row : List Arc) → ((x : Arc) → Contains row x → (y : Arc) → Contains (left_arc has x) y → P y) → (y : Arc) → Contains (left_arcs has row) y → P y
row_each P has row each y h =
    let was = left_of has row y h in
    each was.arc was.there y was.left
