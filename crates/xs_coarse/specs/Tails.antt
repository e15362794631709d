-- The ends of nets.
use Rattle.std.specs.Prelude.{◌≡◌, ℕ, ◌+◌, ◌<◌, true, List}
use Rattle.std.specs.List.{All, Contains}
use Rattle.xs_coarse.specs.declared.arc.Arc.{Arc}
use Rattle.xs_coarse.specs.Coarse.{Net, IsWithin, shifted}
use Rattle.xs_coarse.specs.declared.tail.Tail.{Tail}
use Rattle.xs_coarse.specs.Arcs.{IsGate}

-- each arc of a net is between its states
abbrev pub IsWithinAll : Net → Type 0
IsWithinAll n = All (IsWithin n.states) n.arcs

-- the arcs between states from the gate on are among the others, numbered that much lower
abbrev pub HasArcsFrom : List Arc → ℕ → List Arc → Type 0
HasArcsFrom xs gate ys = (x : Arc) → Contains xs (shifted gate x) → Contains ys x

-- The tail has the arcs between the states of the net from the gate on, which is its state 0, and its last
-- state is that of the net. It has a front where there are states before the gate.
pub record IsTail (n : Net) (last gate : ℕ) (t : Tail) : Type 0 where
  pub shut : IsGate n gate
  pub states : gate + t.net.states ≡ n.states
  pub ends : gate + t.last ≡ last
  pub inside : t.last < t.net.states
  pub arcs : HasArcsFrom n.arcs gate t.net.arcs
  pub front : 0 < gate → t.has_front ≡ true
