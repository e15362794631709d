-- Ascending lists, cut at a number.
use Rattle.std.proofs.Common.{◌≡◌, ℕ, ◌<◌, ◌≤◌, List, length, get_or, subst, ◌∙◌, inl, inr, arith}
use Rattle.std.specs.List.{Contains}
use Rattle.std.proofs.lemmas.Bool.{cases_lt, cases_eq}
use Rattle.std.proofs.lemmas.List.{get_or_default}
use Rattle.std.proofs.lemmas.List.Elements.{Contains-get_or}
use Rattle.xs_loose.specs.Components.{IsListOf}

-- the first i numbers are below the bound, and no later one is
pub record IsUpTo (xs : List ℕ) (i bound : ℕ) : Type 0 where
  pub before : (j : ℕ) → j < i → get_or xs j 0 < bound
  pub after : (j : ℕ) → i ≤ j → j < length xs → bound ≤ get_or xs j 0

-- where a number stands in a list
pub place_of : (xs : List ℕ) (x : ℕ) → Contains xs x → (j : ℕ) × (j < length xs) × (get_or xs j 0 ≡ x)
place_of xs x h = (h.0, h.1, get_or_default xs h.0 0 x h.1 ∙ h.2)

module _ {P : ℕ → Type 0} (xs : List ℕ) (list : IsListOf P xs) where
  -- up to a number of the list itself
  pub up_to_own : (i : ℕ) → i < length xs → IsUpTo xs i (get_or xs i 0)
  up_to_own i l = record {
    before = λ j h. list.rising j i h l;
    after = λ j h k. elim (cases_eq i j) [
      | inl e ↦ subst (λ (m : ℕ). get_or xs i 0 ≤ get_or xs m 0) e (omega arith)
      | inr ne ↦ let m = list.rising i j (omega arith) k in omega arith
    ];
  }

  pub up_to_none : IsUpTo xs 0 0
  up_to_none = record { before = λ j l. absurd (omega arith); after = λ j l h. omega arith }

  -- all numbers are below a bound
  pub up_to_all : (bound : ℕ) → ((i : ℕ) → P i → i < bound) → IsUpTo xs (length xs) bound
  up_to_all bound low = record {
    before = λ j l. low (get_or xs j 0) (list.only (get_or xs j 0) (Contains-get_or xs j 0 l));
    after = λ j l h. absurd (omega arith);
  }

  -- none lies between the last one passed and the bound
  pub none_between : (i bound : ℕ) → IsUpTo xs i bound → (q : ℕ) → P q → q < bound → (j : ℕ) × (j < i) × (j < length xs) × (get_or xs j 0 ≡ q)
  none_between i bound up q h l =
      let at = place_of xs q (list.there q h) in
      elim (cases_lt at.0 i) [
        | inl before ↦ (at.0, before, at.1, at.2)
        | inr after ↦ let m = up.after at.0 after at.1 in absurd (omega (arith, at.2))
      ]
