-- Marks: labels with numbers, in a list.
use Rattle.std.specs.Prelude.{◌≡◌, ℕ, ◌<◌, List, Option, Some, length, slice_get, MatchOption}

-- no mark before place k has the label
abbrev pub IsFirst : {L : Type 0} → List (L × ℕ) → ℕ → L → Type 0
IsFirst marks k label = (m n : ℕ) → m < k → slice_get marks m ≡ Some (label, n) → ⊥

-- one of them has
abbrev pub IsAgain : {L : Type 0} → List (L × ℕ) → ℕ → L → Type 0
IsAgain marks k label = (m : ℕ) × (n : ℕ) × (m < k) × (slice_get marks m ≡ Some (label, n))

-- o is the last mark of the label before place `limit`, and None where there is none
abbrev pub IsLatest : {L : Type 0} → List (L × ℕ) → ℕ → L → Option ℕ → Type 0
IsLatest marks limit label o = MatchOption o (IsFirst marks limit label) (λ p. (p < limit) × ((n : ℕ) × (slice_get marks p ≡ Some (label, n))) × ((k n : ℕ) → p < k → k < limit → slice_get marks k ≡ Some (label, n) → ⊥))

-- each label leads to its last mark, and each mark to the one before it that has the same label
pub record AreLinked {L : Type 0} (last : L → Option ℕ) (marks : List (L × ℕ)) (befores : List (Option ℕ)) : Type 0 where
  pub long : length befores ≡ length marks
  pub last_is : (label : L) → IsLatest marks (length marks) label (last label)
  pub before_is : (k n : ℕ) (label : L) (o : Option ℕ) → slice_get marks k ≡ Some (label, n) → slice_get befores k ≡ Some o → IsLatest marks k label o
