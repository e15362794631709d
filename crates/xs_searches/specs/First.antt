-- Pairs of numbers of which a relation holds, in the order of the first number and then the second.
use Rattle.std.specs.Prelude.{ℕ, ◌<◌}

-- none begins with p and ends before this
abbrev pub HasNoneInRow : (ℕ → ℕ → Type 0) → ℕ → ℕ → Type 0
HasNoneInRow P p end = (q : ℕ) → q < end → P p q → ⊥

-- none begins before this
abbrev pub HasNoneInRows : (ℕ → ℕ → Type 0) → ℕ → Type 0
HasNoneInRows P end = (p : ℕ) → p < end → (q : ℕ) → P p q → ⊥
