-- How a level stretch is gone through: from an outer item or a group to the next one.
use Rattle.std.specs.Prelude.{◌≡◌, ℕ, ◌+◌, ◌<◌, List, ◌++◌, length, drop}
use Rattle.xs_gram.specs.declared.parts.GItem.{GItem}
use Rattle.xs_gram.specs.Grammar.{Grammar}
use Rattle.xs_gram.specs.Fences.{spread, IsLevel}
use Rattle.xs_check_laws.specs.Weights.{capped, BodyWeighs, PartWeighs}
use Rattle.xs_loose.specs.Components.{IsNonOf}

-- the items `rest`, which are level and not none, stand in rule p's spread items from item k on
pub record StandsAt (g : Grammar) (p k : ℕ) (rest : List GItem) : Type 0 where
  pub post : List GItem
  pub split : drop k (spread g p) ≡ rest ++ post
  pub level : IsLevel g.fences rest
  pub some : 0 < length rest

-- the same, where all before them is level too, and they go to the end of the rule
pub record StandsLast (g : Grammar) (p k : ℕ) (rest : List GItem) : Type 0 where
  pub front : List GItem
  pub split : spread g p ≡ front ++ rest
  pub place : k ≡ length front
  pub level_front : IsLevel g.fences front
  pub level : IsLevel g.fences rest
  pub some : 0 < length rest

-- the stretch begins with a piece that ends before item `next`, and goes on level
pub record IsPiece (g : Grammar) (k : ℕ) (rest : List GItem) (next : ℕ) (piece after : List GItem) : Type 0 where
  pub split : rest ≡ piece ++ after
  pub place : next ≡ k + length piece
  pub some : 0 < length piece
  pub level : IsLevel g.fences piece
  pub level_after : IsLevel g.fences after

-- such a piece, and its weight before it is capped, by itself or in the component of c
pub record PartStep (g : Grammar) (k : ℕ) (rest : List GItem) (next count : ℕ) : Type 0 where
  pub piece : List GItem
  pub later : List GItem
  pub is : IsPiece g k rest next piece later
  pub weighs : PartWeighs g piece (capped count)

pub record BodyStep (g : Grammar) (comps : List ℕ) (component k : ℕ) (rest : List GItem) (next count : ℕ) : Type 0 where
  pub piece : List GItem
  pub later : List GItem
  pub is : IsPiece g k rest next piece later
  pub weighs : (c : ℕ) → IsNonOf g comps component c → BodyWeighs g c piece (capped count)
