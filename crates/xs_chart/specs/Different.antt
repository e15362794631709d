-- Lists of different elements.
use Rattle.std.specs.Prelude.{◌≡◌, ℕ, List, Some, slice_get}

-- no element stands at two places
abbrev pub AreDifferent : {A : Type 0} → List A → Type 0
AreDifferent {A} xs = (j k : ℕ) (x : A) → slice_get xs j ≡ Some x → slice_get xs k ≡ Some x → j ≡ k
