-- Which items are nullable, by tests, and from which places of a rule on all are.
use Rattle.std.proofs.Common.{◌≡◌, ℕ, suc, ◌-◌, ◌<◌, ◌≤◌, [], length, Bool, true, Some, refl, sym, ◌∙◌, subst, arith, inl, inr, ◌↔◌, leb}
use Rattle.std.proofs.lemmas.Bool.{leb-true, le-leb, cases_lt}
use Rattle.std.specs.Prelude.{slice_get}
use Rattle.std.proofs.lemmas.Option.{same_Some}
use Rattle.xs_regex.specs.declared.position.Position.{Position}
use Rattle.xs_regex.specs.Automaton.{Accepts}
use Rattle.xs_gram.specs.declared.parts.GItem.{GItem}
use Rattle.xs_gram.specs.declared.parts.GItem.TheVariants.{Fixed, Term, Non, Skip}
use Rattle.xs_gram.specs.Grammar.{Grammar, term_of, skip_of, items, ItemAt}
use Rattle.xs_gram.specs.Sound.{IsBuilt, IsNullableItem}
use Rattle.xs_chart_laws.proofs.Words.{get_lt}
use Rattle.xs_chart_laws.proofs.Spelling.{term_agrees, skip_agrees}
use Rattle.xs_forest_laws.specs.Order.{is_nullable_by, AreNullable, IsTailFrom, IsNullableFrom, IsTail}
use Rattle.xs_class.proofs.Truth.{false_true}
use Rattle.xs_class.proofs.Lists.{some_length}
use Rattle.xs_regex.proofs.Runs.{no_run}

accepts_empty : (a : Position) → Accepts a [] → a.nullable ≡ true
accepts_empty a (inl e) = e.1
accepts_empty a (inr (k, run, l)) = absurd (no_run a [] k refl run)

module _ (g : Grammar) (built : IsBuilt g) (flag : ℕ → Bool) (flags : AreNullable g flag) where
  -- an item is nullable exactly where the test says it
  pub nullable_item : (p n : ℕ) (item : GItem) → ItemAt g p n item → (is_nullable_by g flag item ≡ true) ↔ IsNullableItem g item
  nullable_item p n (Fixed f) at = ((λ e. absurd (false_true e)), (λ e. absurd (some_length f (built.range.words p n f at) e)))
  nullable_item p n (Term t s) at =
      let agrees = (term_agrees g built p n t s at).accepts [] in
      ((λ e. agrees.1 (inl (refl, e))), (λ m. accepts_empty (term_of g t).automaton (agrees.0 m)))
  nullable_item p n (Skip k) at =
      let agrees = (skip_agrees g built p n k at).accepts [] in
      ((λ e. agrees.1 (inl (refl, e))), (λ m. accepts_empty (skip_of g k).automaton (agrees.0 m)))
  nullable_item p n (Non m s) at = flags m (built.range.nons p n m s at)

-- after the last item there is none
pub none_after : (g : Grammar) (p : ℕ) → IsNullableFrom g p (length (items g p))
none_after g p k item le at = let lt = get_lt (items g p) k item at in absurd (omega arith)

-- one item more
pub nullable_more : (g : Grammar) (p d : ℕ) (item : GItem) → ItemAt g p d item → IsNullableItem g item → IsNullableFrom g p (suc d) → IsNullableFrom g p d
nullable_more g p d item at nullable rest k other le there = elim (cases_lt d k) [
  | inl lt ↦ rest k other lt there
  | inr ge ↦
      let same : k ≡ d = omega arith in
      subst (λ z. IsNullableItem g z) (same_Some item other (sym at ∙ subst (λ z. slice_get (items g p) z ≡ Some other) same there)) nullable
]

-- the test by the first places from which all items are nullable
pub tails : (g : Grammar) (from : ℕ → ℕ) → ((p : ℕ) → p < length g.rules → IsTailFrom g p (from p)) → IsTail g (λ p d. leb (from p) d)
tails g from each p d lt le = ((λ e. after (leb-true (from p) d e)), (λ h. le-leb (from p) d (ahead h)))
  where
    after : from p ≤ d → IsNullableFrom g p d
    after over k item at = (each p lt).after k item (omega arith)

    ahead : IsNullableFrom g p d → from p ≤ d
    ahead h = elim (cases_lt d (from p)) [
      | inl less ↦
          let e : suc (from p - 1) ≡ from p = omega arith in
          absurd ((each p lt).first (from p - 1) e (λ k item le. h k item (omega arith)))
      | inr ge ↦ ge
    ]
