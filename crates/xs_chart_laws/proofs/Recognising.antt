-- What a recogniser does closes the sets.
use Rattle.std.proofs.Common.{◌≡◌, ℕ, suc, ◌-◌, ◌≤◌, List, [], length, ◌∙◌, arith, inl, inr}
use Rattle.std.proofs.lemmas.Bool.{cases_lt}
use Rattle.std.specs.Prelude.{slice_range}
use Rattle.xs_gram.specs.declared.parts.GItem.TheVariants.{Non}
use Rattle.xs_gram.specs.declared.places.Place.{Place}
use Rattle.xs_gram.specs.Grammar.{Grammar, items, IsRuleOf, ItemAt}
use Rattle.xs_gram.specs.Derivations.{parts_yield}
use Rattle.xs_gram.specs.Places.{at_dot}
use Rattle.xs_chart_laws.specs.Closed.{IsClosed, IsClosedBy, AllStand}
use Rattle.xs_chart_laws.proofs.Spelling.{Spells-whole}

slice_none : (w : List ℕ) (j : ℕ) → slice_range w j j ≡ []
slice_none w j = let e : j - j ≡ 0 = omega arith in rw e

module _ (g : Grammar) (w : List ℕ) (has : ℕ → Place → ℕ → Type 0) (all : AllStand g w has) (by : IsClosedBy g w has) where
  completes : (p n i j k m s q : ℕ) → has j (at_dot p n) i → ItemAt g p n (Non m s) → IsRuleOf g m q → has k (at_dot q (length (items g q))) j → has k (at_dot p (suc n)) i
  completes p n i j k m s q h at r ed = elim (cases_lt j k) [ inl lt ↦ by.completes p n i j k m s q lt h at r ed | inr le ↦ at_once le ]
    where
      at_once : k ≤ j → has k (at_dot p (suc n)) i
      at_once le =
          let st = all (at_dot q (length (items g q))) j k ed in
          let j-is : j ≡ k = omega arith in
          let ps = Spells-whole g q (slice_range w j k) st.5 in
          let none : parts_yield ps.0 ≡ [] = ps.2 ∙ rw j-is (slice_none w k) in
          let p' = by.passes_non p n i j m s h at (record { rule = q; parts = ps.0 }, (r, ps.1), none) in
          rw j-is at p'

  pub closed_by : IsClosed g w has
  closed_by = record { starts = by.starts; predicts = by.predicts; passes = by.passes; enters = by.enters; steps = by.steps; ends = by.ends; reads = by.reads; completes = completes }
