-- A net that stands in another.
use Rattle.std.specs.Prelude.{ℕ, ◌+◌, ◌-◌, nat_eq, if◌then◌else◌}
use Rattle.std.specs.List.{All}
use Rattle.xs_coarse.specs.Coarse.{Net, IsWithin, HasArc}

-- the arcs of a net are in another, where its states may have other numbers
pub record Placed (m n : Net) (f : ℕ → ℕ) : Type 0 where
  pub within : All (IsWithin n.states) n.arcs
  pub arc : (x l y : ℕ) → HasArc m x l y → HasArc n (f x) l (f y)

-- the state for one of a net that is laid from a state to another: its first and its last state are those,
-- and the others follow each other from a number on
abbrev pub inner_state : ℕ → ℕ → ℕ → ℕ → ℕ → ℕ
inner_state last base from to x = if nat_eq x 0 then from else (if nat_eq x last then to else base + (x - 1))
