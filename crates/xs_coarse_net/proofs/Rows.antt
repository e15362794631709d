-- Lists that are gone through from the front.
use Rattle.std.proofs.Common.{◌≡◌, ℕ, zero, suc, ◌+◌, ◌<◌, ◌≤◌, List, [], ◌∷◌, length, take, get_or, slice_get, Some, sym, subst, inl, inr, arith}
use Rattle.std.specs.List.{Contains}
use Rattle.std.proofs.lemmas.List.{take_more, take_all}
use Rattle.std.proofs.lemmas.List.Elements.{Contains-append_cases}
use Rattle.xs_class.specs.Classes.{Has}
use Rattle.xs_regex.specs.declared.position.Position.{Position}
use Rattle.xs_regex.specs.Automaton.{HasAt, Leads}
use Rattle.xs_regex.proofs.Rows.{at_within}

pub none_in : {A : Type 0} (x : A) → Contains [] x → ⊥
none_in x (n, lt, e) = absurd (omega arith)

pub one_in : {A : Type 0} (x y : A) → Contains (x ∷ []) y → y ≡ x
one_in x y (zero, lt, e) = sym e
one_in x y (suc n, lt, e) = absurd (omega arith)

-- nothing is in a front of no elements
pub take_none : {A : Type 0} (P : A → Type 0) (xs : List A) (x : A) → Contains (take 0 xs) x → P x
take_none P xs x h = absurd (none_in x h)

-- what holds of a front, and of the next element, holds of the longer front
pub take_each : {A : Type 0} (P : A → Type 0) (xs : List A) (i : ℕ) (d : A) → i < length xs → ((x : A) → Contains (take i xs) x → P x) → P (get_or xs i d) → (x : A) → Contains (take (i + 1) xs) x → P x
take_each P xs i d low was here x h = elim (Contains-append_cases (take i xs) (get_or xs i d ∷ []) x (subst (λ (l : List _). Contains l x) (take_more xs i d low) h)) [
  | inl before ↦ was x before
  | inr last ↦ subst P (sym (one_in (get_or xs i d) x last)) here
]

-- the longest front is all
pub take_whole : {A : Type 0} (xs : List A) (i : ℕ) (x : A) → length xs ≤ i → Contains xs x → Contains (take i xs) x
take_whole xs i x end h = subst (λ (l : List _). Contains l x) (sym (take_all i xs end)) h

-- a position with a symbol is one of the automaton, and so is one that leads on
pub has_low : (p : Position) (k s : ℕ) → HasAt p k s → k < length p.classes
has_low p k s h = at_within (λ class. Has class s) p.classes k h

pub leads_low : (p : Position) (j k : ℕ) → Leads p j k → j < length p.follow
leads_low p j k h = at_within (λ row. Contains row k) p.follow j h

pub leads_at : (p : Position) (j k : ℕ) (row : List ℕ) → slice_get p.follow j ≡ Some row → Leads p j k → Contains row k
leads_at p j k row e h = rw e at h
