-- What contracts see of an edge.
use Rattle.std.specs.Prelude.{ℕ, List}

-- an edge: the ranges of its class, and the state that it leads to
pub record Edge : Type 0 where
  pub class : List (ℕ × ℕ)
  pub to : ℕ
