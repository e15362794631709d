-- The arcs of the end of a net.
use Rattle.std.proofs.Common.{◌≡◌, ℕ, ◌+◌, ◌-◌, ◌≤◌, List, [], ◌∷◌, ◌++◌, ap, refl, subst, sym, arith}
use Rattle.std.specs.List.{All, Contains}
use Rattle.std.proofs.lemmas.List.Elements.{All-contains, Contains-append_left, Contains-push}
use Rattle.xs_coarse.specs.declared.arc.Arc.{Arc}
use Rattle.xs_coarse.specs.Coarse.{IsWithin, shifted}
use Rattle.xs_coarse.specs.Tails.{HasArcsFrom}
use Rattle.xs_coarse.proofs.ArcLemmas.{arc}

-- each arc that is this one where it is numbered higher by the gate is there
abbrev pub IsKept : ℕ → List Arc → Arc → Type 0
IsKept gate ys y = (x : Arc) → shifted gate x ≡ y → Contains ys x

-- the arc numbered lower
abbrev pub lower : ℕ → Arc → Arc
lower gate y = arc (y.from - gate) y.label (y.to - gate)

pub kept_more : (gate : ℕ) (ys : List Arc) (z : Arc) (y : Arc) → IsKept gate ys y → IsKept gate (ys ++ z ∷ []) y
kept_more gate ys z y kept x e = Contains-append_left ys (z ∷ []) x (kept x e)

pub kept_here : (gate : ℕ) (ys : List Arc) (y : Arc) → IsKept gate (ys ++ lower gate y ∷ []) y
kept_here gate ys y x e = subst (λ (z : Arc). Contains (ys ++ lower gate y ∷ []) z) same (Contains-push ys (lower gate y))
  where
    from : y.from - gate ≡ x.from
    from = omega (arith, ap (λ (z : Arc). z.from) e)

    to : y.to - gate ≡ x.to
    to = omega (arith, ap (λ (z : Arc). z.to) e)

    label : y.label ≡ x.label
    label = sym (ap (λ (z : Arc). z.label) e)

    same : lower gate y ≡ x
    same i = record { from = from i; label = label i; to = to i }

-- an arc that leads from or to a state before the gate is none that is numbered higher by the gate
pub kept_none : (gate : ℕ) (ys : List Arc) (y : Arc) → (gate ≤ y.from → gate ≤ y.to → ⊥) → IsKept gate ys y
kept_none gate ys y before x e = absurd (before (omega (arith, ap (λ (z : Arc). z.from) e)) (omega (arith, ap (λ (z : Arc). z.to) e)))

pub all_kept : (gate : ℕ) (xs ys : List Arc) → All (IsKept gate ys) xs → HasArcsFrom xs gate ys
all_kept gate xs ys kept x has = All-contains (IsKept gate ys) xs (shifted gate x) kept has x refl

pub lower_within : (gate states all : ℕ) (y : Arc) → gate + states ≡ all → gate ≤ y.from → gate ≤ y.to → IsWithin all y → IsWithin states (lower gate y)
lower_within gate states all y e from to within = record { from = omega (arith, e, from, within.from); to = omega (arith, e, to, within.to) }
