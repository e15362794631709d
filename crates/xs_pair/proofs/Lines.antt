-- The least line at which a rule fails, element by element.
use Rattle.std.proofs.Common.{◌≡◌, ◌⊎◌, ◌∙◌, ◌<◌, ◌≤◌, ◌+◌, inl, inr, ap, sym, refl, subst, ℕ, suc, zero, List, [], ◌∷◌, ◌++◌, length, take, drop, get_or, Some, None, arith, slice_get}
use Rattle.std.specs.Prelude.{min}
use Rattle.std.specs.declared.option.Option.{Option}
use Rattle.std.proofs.lemmas.Bool.{cases_lt}
use Rattle.std.proofs.lemmas.List.{length-take-le}
use Rattle.std.proofs.lemmas.Option.{none-some, same_Some}
use Rattle.xs_class.proofs.Lists.{get_left, get_last, take_next}
use Rattle.xs_gram.proofs.Building.{drop_next}
use Rattle.xs_pair.specs.declared.mark.Mark.{Mark}
use Rattle.xs_pair.specs.Rules.{SomeOf}
use Rattle.xs_pair.specs.Verdict.{IsLineWhere, IsFirstLine, earlier}
use Rattle.xs_pair.specs.Weights.{mark_weight, marks_weight}
use Rattle.xs_pair.proofs.Places.{get_snoc}

-- a line of the front is one of the whole, and the last element's is another
line_front : {A : Type 0} (P : ℕ → A → Type 0) (f : A → ℕ) (xs : List A) (x : A) (line : ℕ) → IsLineWhere P f xs line → IsLineWhere P f (xs ++ x ∷ []) line
line_front P f xs x line (k, y, at, holds, is) = (k, y, get_left xs (x ∷ []) k y at, holds, is)

line_last : {A : Type 0} (P : ℕ → A → Type 0) (f : A → ℕ) (xs : List A) (x : A) → P (length xs) x → IsLineWhere P f (xs ++ x ∷ []) (f x)
line_last P f xs x holds = (length xs, x, get_last xs x, holds, refl)

line_cases : {A : Type 0} (P : ℕ → A → Type 0) (f : A → ℕ) (xs : List A) (x : A) (line : ℕ) → IsLineWhere P f (xs ++ x ∷ []) line → IsLineWhere P f xs line ⊎ (P (length xs) x × (f x ≡ line))
line_cases P f xs x line (k, y, at, holds, is) = by_case (get_snoc xs x k y at)
  where
    by_case : (slice_get xs k ≡ Some y) ⊎ ((k ≡ length xs) × (x ≡ y)) → IsLineWhere P f xs line ⊎ (P (length xs) x × (f x ≡ line))
    by_case (inl here) = inl (k, y, here, holds, is)
    by_case (inr (last, same)) = inr (subst (λ j. P j x) last (subst (λ z. P k z) (sym same) holds), ap f same ∙ is)

-- one more element, in which the rule does not fail
pub line_passes : {A : Type 0} (P : ℕ → A → Type 0) (f : A → ℕ) (xs : List A) (x : A) (o : Option ℕ) → (P (length xs) x → ⊥) → IsFirstLine (IsLineWhere P f xs) o → IsFirstLine (IsLineWhere P f (xs ++ x ∷ [])) o
line_passes P f xs x None passes none = λ line fails. by_case line (line_cases P f xs x line fails)
  where
    by_case : (line : ℕ) → IsLineWhere P f xs line ⊎ (P (length xs) x × (f x ≡ line)) → ⊥
    by_case line (inl h) = none line h
    by_case line (inr h) = passes h.0
line_passes P f xs x (Some least) passes first = record {
  fails = line_front P f xs x least first.fails;
  least = λ line fails. by_case line (line_cases P f xs x line fails);
}
  where
    by_case : (line : ℕ) → IsLineWhere P f xs line ⊎ (P (length xs) x × (f x ≡ line)) → least ≤ line
    by_case line (inl h) = first.least line h
    by_case line (inr h) = absurd (passes h.0)

-- one more element, in which it fails
pub line_fails : {A : Type 0} (P : ℕ → A → Type 0) (f : A → ℕ) (xs : List A) (x : A) (o : Option ℕ) → P (length xs) x → IsFirstLine (IsLineWhere P f xs) o → IsFirstLine (IsLineWhere P f (xs ++ x ∷ [])) (Some (earlier o (f x)))
line_fails P f xs x None holds none = record {
  fails = line_last P f xs x holds;
  least = λ line fails. by_case line (line_cases P f xs x line fails);
}
  where
    by_case : (line : ℕ) → IsLineWhere P f xs line ⊎ (P (length xs) x × (f x ≡ line)) → f x ≤ line
    by_case line (inl h) = absurd (none line h)
    by_case line (inr h) = let is = h.1 in omega arith
line_fails P f xs x (Some least) holds first = record {
  fails = lesser (cases_lt least (f x));
  least = λ line fails. by_case line (line_cases P f xs x line fails);
}
  where
    lesser : (least < f x) ⊎ (f x ≤ least) → IsLineWhere P f (xs ++ x ∷ []) (min least (f x))
    lesser (inl low) = let is : least ≡ min least (f x) = omega arith in subst (λ l. IsLineWhere P f (xs ++ x ∷ []) l) is (line_front P f xs x least first.fails)
    lesser (inr high) = let is : f x ≡ min least (f x) = omega arith in subst (λ l. IsLineWhere P f (xs ++ x ∷ []) l) is (line_last P f xs x holds)

    by_case : (line : ℕ) → IsLineWhere P f xs line ⊎ (P (length xs) x × (f x ≡ line)) → min least (f x) ≤ line
    by_case line (inl h) = let low = first.least line h in omega arith
    by_case line (inr h) = let is = h.1 in omega arith

pub line_none : {A : Type 0} (P : ℕ → A → Type 0) (f : A → ℕ) → IsFirstLine (IsLineWhere P f []) None
line_none P f line (k, y, at, holds, is) = none-some y at

-- the same over the front of a list that grows by its next element
pub take_passes : {A : Type 0} (P : ℕ → A → Type 0) (f : A → ℕ) (xs : List A) (i : ℕ) (x : A) (o p : Option ℕ) → i < length xs → x ≡ get_or xs i x → (P i x → ⊥) → p ≡ o → IsFirstLine (IsLineWhere P f (take i xs)) o → IsFirstLine (IsLineWhere P f (take (i + 1) xs)) p
take_passes P f xs i x o p lt at passes same first =
    let long : length (take i xs) ≡ i = length-take-le i xs (omega arith) in
    subst (λ l. IsFirstLine (IsLineWhere P f l) p) (sym (take_next xs i x lt at))
    (subst (λ q. IsFirstLine (IsLineWhere P f (take i xs ++ x ∷ [])) q) (sym same)
    (line_passes P f (take i xs) x o (λ h. passes (subst (λ j. P j x) long h)) first))

pub take_fails : {A : Type 0} (P : ℕ → A → Type 0) (f : A → ℕ) (xs : List A) (i : ℕ) (x : A) (o p : Option ℕ) → i < length xs → x ≡ get_or xs i x → P i x → p ≡ Some (earlier o (f x)) → IsFirstLine (IsLineWhere P f (take i xs)) o → IsFirstLine (IsLineWhere P f (take (i + 1) xs)) p
take_fails P f xs i x o p lt at holds same first =
    let long : length (take i xs) ≡ i = length-take-le i xs (omega arith) in
    subst (λ l. IsFirstLine (IsLineWhere P f l) p) (sym (take_next xs i x lt at))
    (subst (λ q. IsFirstLine (IsLineWhere P f (take i xs ++ x ∷ [])) q) (sym same)
    (line_fails P f (take i xs) x o (subst (λ j. P j x) (sym long) holds) first))

-- some element of a list, by its place
pub some_at : {A : Type 0} (P : A → Type 0) (xs : List A) (k : ℕ) (x : A) → slice_get xs k ≡ Some x → P x → SomeOf P xs
some_at P [] k x at holds = absurd (none-some x at)
some_at P (y ∷ xs) zero x at holds = inl (subst (λ z. P z) (sym (same_Some y x at)) holds)
some_at P (y ∷ xs) (suc k) x at holds = inr (some_at P xs k x at holds)

-- where P fails of the next element, it holds of a later one
pub some_later : {A : Type 0} (P : A → Type 0) (xs : List A) (i : ℕ) (x : A) → i < length xs → x ≡ get_or xs i x → (P x → ⊥) → SomeOf P (drop i xs) → SomeOf P (drop (i + 1) xs)
some_later P xs i x lt at not some = by_case (subst (λ l. SomeOf P l) (drop_next xs i x lt at) some)
  where
    by_case : P x ⊎ SomeOf P (drop (i + 1) xs) → SomeOf P (drop (i + 1) xs)
    by_case (inl h) = absurd (not h)
    by_case (inr h) = h

-- a mark weighs no more than all marks
pub mark_light : (ms : List Mark) (k : ℕ) (m : Mark) → slice_get ms k ≡ Some m → mark_weight m ≤ marks_weight ms
mark_light [] k m at = absurd (none-some m at)
mark_light (n ∷ ms) zero m at = let same : mark_weight n ≡ mark_weight m = ap mark_weight (same_Some n m at) in omega arith
mark_light (n ∷ ms) (suc k) m at = let rest = mark_light ms k m at in omega arith
