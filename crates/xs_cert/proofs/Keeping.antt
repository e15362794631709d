-- Nets of rules are still such where one more is kept, or one less.
use Rattle.std.proofs.Common.{◌≡◌, ◌≢◌, ◌⊎◌, inl, inr, ℕ, zero, suc, List, [], ◌∷◌, refl, set, ap, sym, subst, ◌∙◌}
use Rattle.std.proofs.lemmas.Bool.{cases_eq}
use Rattle.std.proofs.lemmas.Option.{same_Some}
use Rattle.std.specs.declared.option.Option.{Option}
use Rattle.std.specs.declared.option.Option.TheVariants.{Some}
use Rattle.std.specs.Option.{IfSome}
use Rattle.std.specs.List.{slice_get}
use Rattle.xs_auto.specs.Nets.{Graph}
use Rattle.xs_gram.specs.Grammar.{Grammar}
use Rattle.xs_searches.specs.Spaces.{IsRuleNet}
use Rattle.xs_cert.specs.Kept.{AreNetsOf}

set_other : (xs : List (Option Graph)) (i j : ℕ) (x : Option Graph) → j ≢ i → slice_get (set xs i x) j ≡ slice_get xs j
set_other [] i j x other = refl
set_other (y ∷ ys) zero zero x other = absurd (other refl)
set_other (y ∷ ys) zero (suc j) x other = refl
set_other (y ∷ ys) (suc i) zero x other = refl
set_other (y ∷ ys) (suc i) (suc j) x other = set_other ys i j x (λ e. other (ap suc e))

set_here : (xs : List (Option Graph)) (i : ℕ) (x y : Option Graph) → slice_get (set xs i x) i ≡ Some y → x ≡ y
set_here [] i x y e = absurd cc
set_here (z ∷ zs) zero x y e = same_Some _ _ e
set_here (z ∷ zs) (suc i) x y e = set_here zs i x y e

pub nets_set : (g : Grammar) (p : ℕ) (made : Option Graph) (old new : List (Option Graph)) → AreNetsOf g old → IfSome made (IsRuleNet g p) → (new ≡ old) ⊎ (new ≡ set old p made) → AreNetsOf g new
nets_set g p made old new was of is = elim is [
  | inl same ↦ subst (λ (xs : List (Option Graph)). AreNetsOf g xs) (sym same) was
  | inr more ↦ subst (λ (xs : List (Option Graph)). AreNetsOf g xs) (sym more) each
]
  where
    here : (n : Graph) → slice_get (set old p made) p ≡ Some (Some n) → IsRuleNet g p n
    here n e = subst (λ (o : Option Graph). IfSome o (IsRuleNet g p)) (set_here old p made (Some n) e) of

    each : AreNetsOf g (set old p made)
    each q n at = elim (cases_eq q p) [
      | inl same ↦ subst (λ (k : ℕ). IsRuleNet g k n) (sym same) (here n (ap (λ (k : ℕ). slice_get (set old p made) k) (sym same) ∙ at))
      | inr other ↦ was q n (sym (set_other old p q made other) ∙ at)
    ]
