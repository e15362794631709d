-- How far the net of a level stretch was made.
use Rattle.std.specs.Prelude.{◌≡◌, ℕ, ◌+◌, ◌-◌, List, ◌++◌, length}
use Rattle.std.specs.List.{All}
use Rattle.xs_auto.specs.Nets.{Graph}
use Rattle.xs_gram.specs.declared.parts.GItem.{GItem}
use Rattle.xs_gram.specs.Grammar.{Grammar}
use Rattle.xs_gram.specs.Fences.{IsLevel}
use Rattle.xs_loose.specs.Steps.{IsPiece}
use Rattle.xs_coarse.specs.Coarse.{Table, Net, view}
use Rattle.xs_coarse.specs.Covers.{CoversPart}
use Rattle.xs_coarse_net.specs.declared.cover.Outer.{Outer}
use Rattle.xs_coarse_net.specs.Placing.{Placed}

-- a net, without thought of a last state
abbrev pub open_view : Table → Net → Graph
open_view t n = view t n 0 0

-- the last state of a net
abbrev pub last_state : Net → ℕ
last_state n = n.states - 1

-- an outer place of the items before the next one: the net covers the items before it, and from its state
-- on those after it
pub record IsPlaced (g : Grammar) (t : Table) (n : Net) (p start : ℕ) (front : List GItem) (o : Outer) : Type 0 where
  pub before : List GItem
  pub after : List GItem
  pub split : front ≡ before ++ after
  pub place : o.place ≡ start + length before
  pub first : CoversPart g (open_view t n) p start before 0 o.state
  pub second : CoversPart g (open_view t n) p o.place after o.state (last_state n)

-- the net covers the items before the next one
pub record IsCovered (g : Grammar) (t : Table) (n : Net) (p start : ℕ) (is : List GItem) (next : ℕ) (places : List Outer) : Type 0 where
  pub front : List GItem
  pub rest : List GItem
  pub split : is ≡ front ++ rest
  pub place : next ≡ start + length front
  pub level : IsLevel g.fences rest
  pub covers : CoversPart g (open_view t n) p start front 0 (last_state n)
  pub told : All (IsPlaced g t n p start front) places

-- a net goes on by a piece, with which the items begin
pub record Extends (g : Grammar) (t : Table) (p k : ℕ) (rest : List GItem) (next : ℕ) (old new : Net) : Type 0 where
  pub piece : List GItem
  pub later : List GItem
  pub is : IsPiece g k rest next piece later
  pub covers : CoversPart g (open_view t new) p k piece (last_state old) (last_state new)
  pub placed : Placed old new (λ x. x)
