-- Elements of lists, as data.
use Rattle.std.proofs.Common.{◌≡◌, ◌⊎◌, inl, inr, zero, suc, List, [], ◌∷◌, ◌++◌, refl, arith}
use Rattle.std.specs.List.{Contains}
use Rattle.xs_class.proofs.Lists.{rest_in}

-- the element is one of the list
pub data Among {X : Type 0} : List X → X → Type 0 where
  front : {x y : X} {ys : List X} → y ≡ x → Among (y ∷ ys) x
  further : {x y : X} {ys : List X} → Among ys x → Among (y ∷ ys) x

none_at : {X : Type 0} {ys : List X} {x : X} → Among ys x → ys ≡ [] → ⊥
none_at (front e) h = cc
none_at (further p) h = cc

pub nothing : {X : Type 0} {x : X} → Among [] x → ⊥
nothing h = none_at h refl

pub first_or_rest : {X : Type 0} {x y : X} {ys : List X} → Among (y ∷ ys) x → (y ≡ x) ⊎ Among ys x
first_or_rest (front e) = inl e
first_or_rest (further p) = inr p

pub among_left : {X : Type 0} (xs ys : List X) {x : X} → Among xs x → Among (xs ++ ys) x
among_left xs ys (front e) = front e
among_left xs ys (further {ys = zs} p) = further (among_left zs ys p)

pub among_right : {X : Type 0} (xs ys : List X) {x : X} → Among ys x → Among (xs ++ ys) x
among_right [] ys p = p
among_right (x ∷ xs) ys p = further (among_right xs ys p)

pub among_either : {X : Type 0} (xs ys : List X) {x : X} → Among (xs ++ ys) x → Among xs x ⊎ Among ys x
among_either [] ys p = inr p
among_either (y ∷ xs) ys p = elim (first_or_rest p) [ inl e ↦ inl (front e) | inr later ↦ elim (among_either xs ys later) [ inl h ↦ inl (further h) | inr h ↦ inr h ] ]

pub of_contains : {X : Type 0} (xs : List X) (x : X) → Contains xs x → Among xs x
of_contains [] x (n, lt, e) = absurd (omega arith)
of_contains (y ∷ ys) x (zero, lt, e) = front e
of_contains (y ∷ ys) x (suc n, lt, e) = further (of_contains ys x (n, omega arith, e))

pub to_contains : {X : Type 0} {xs : List X} {x : X} → Among xs x → Contains xs x
to_contains (front e) = (0, omega arith, e)
to_contains (further {x = x} {y = y} {ys = ys} p) = rest_in y ys x (to_contains p)
