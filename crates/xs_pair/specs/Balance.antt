-- How it is decided whether fence characters are balanced: by the right ones that are awaited, the
-- innermost first.
use Rattle.std.specs.Prelude.{◌≡◌, ℕ, ◌==◌, Bool, true, false, List, [], ◌∷◌, None, Some, if◌then◌else◌}
use Rattle.std.specs.declared.option.Option.{Option}
use Rattle.xs_gram.specs.Fences.{is_right}
use Rattle.xs_pair.specs.Fences.{IsPair}

-- the right character of the first pair with this left one
abbrev pub right_of : List (ℕ × ℕ) → ℕ → Option ℕ
right_of [] c = None
right_of (f ∷ fs) c = if f.0 == c then Some f.1 else right_of fs c

-- what is awaited after a right character, or none where it is not the one that is awaited
abbrev pub closed : List ℕ → ℕ → Option (List ℕ)
closed [] c = None
closed (r ∷ awaited) c = if r == c then Some awaited else None

-- the same after any character
abbrev pub stepped : List ℕ → ℕ → Option ℕ → Bool → Option (List ℕ)
stepped awaited c (Some r) b = Some (r ∷ awaited)
stepped awaited c None true = closed awaited c
stepped awaited c None false = Some awaited

abbrev pub step : List (ℕ × ℕ) → List ℕ → ℕ → Option (List ℕ)
step fs awaited c = stepped awaited c (right_of fs c) (is_right fs c)

-- whether the word closes what is awaited, and nothing is awaited at its end
abbrev pub goes_on : Option (List ℕ) → (List ℕ → Bool) → Bool
goes_on None more = false
goes_on (Some awaited) more = more awaited

abbrev pub closes : List (ℕ × ℕ) → List ℕ → List ℕ → Bool
closes fs [] [] = true
closes fs [] (r ∷ awaited) = false
closes fs (c ∷ w) awaited = goes_on (step fs awaited c) (λ more. closes fs w more)

-- no character is of two pairs, nor of both sides of one
pub record AreApart (fs : List (ℕ × ℕ)) : Type 0 where
  pub right : (l r : ℕ) → IsPair fs l r → right_of fs l ≡ Some r
  pub apart : (l r : ℕ) → IsPair fs l r → right_of fs r ≡ None
