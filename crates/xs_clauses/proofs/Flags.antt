-- Flags that are set, and lists of numbers.
use Rattle.std.proofs.Common.{◌≡◌, ℕ, ◌<◌, ◌⊎◌, Bool, true, false, List, length, set, take, drop, sym, subst, ◌∙◌, inl, inr, get_or-set_same, get_or-set_other, take-append-drop}
use Rattle.std.specs.List.{Contains}
use Rattle.std.proofs.lemmas.Bool.{cases_lt, cases_eq, false≢true}
use Rattle.std.proofs.lemmas.List.{get_or_past}
use Rattle.std.proofs.lemmas.List.Elements.{Contains-append_left}
use Rattle.xs_clauses.specs.Search.{IsSet}

pub taken_within : {X : Type 0} (n : ℕ) (xs : List X) (x : X) → Contains (take n xs) x → Contains xs x
taken_within n xs x h = subst (λ ys. Contains ys x) (take-append-drop n xs) (Contains-append_left (take n xs) (drop n xs) x h)

pub set_within : (flags : List Bool) (n : ℕ) → IsSet flags n → n < length flags
set_within flags n h = elim (cases_lt n (length flags)) [
  | inl l ↦ l
  | inr l ↦ absurd (false≢true (sym (get_or_past flags n false l) ∙ h))
]

-- a flag that is set stays set, and no other flag than that of n becomes set
pub set_more : (flags : List Bool) (n m : ℕ) → IsSet flags m → IsSet (set flags n true) m
set_more flags n m h = elim (cases_eq m n) [
  | inl e ↦ let l : n < length flags = rw e at (set_within flags m h) in rw e (get_or-set_same flags n true false l)
  | inr ne ↦ get_or-set_other flags n m true false ne ∙ h
]

pub set_here : (flags : List Bool) (n : ℕ) → n < length flags → IsSet (set flags n true) n
set_here flags n l = get_or-set_same flags n true false l

pub set_cases : (flags : List Bool) (n m : ℕ) → IsSet (set flags n true) m → (m ≡ n) ⊎ IsSet flags m
set_cases flags n m h = elim (cases_eq m n) [
  | inl e ↦ inl e
  | inr ne ↦ inr (sym (get_or-set_other flags n m true false ne) ∙ h)
]
