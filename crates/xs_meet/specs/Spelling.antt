-- Pieces in which those of a row stand in place of each that is of its two groups.
use Rattle.std.specs.Prelude.{ℕ, ⊤, List}
use Rattle.std.specs.List.{All}
use Rattle.xs_auto.specs.Nests.{Group}
use Rattle.xs_meet.specs.declared.piece.Piece.{Piece}
use Rattle.xs_meet.specs.declared.piece.Piece.TheVariants.{Symbol, Groups}
use Rattle.xs_meet.specs.declared.shared_groups.SharedGroups.{SharedGroups}
use Rattle.xs_meet.specs.Pieces.{Spells}
use Rattle.xs_meet.specs.Sharing.{IsOf, IsKnownBefore}

-- the piece is of the row's two groups
abbrev pub HasGroups : SharedGroups → Piece → Type 0
HasGroups row (Symbol s) = ⊥
HasGroups row (Groups g h) = IsOf row g h

-- the piece is a symbol
abbrev pub IsSymbol : Piece → Type 0
IsSymbol (Symbol s) = ⊤
IsSymbol (Groups g h) = ⊥

-- what the new pieces spell, the old ones spell, and those of the new ones that are of groups are of
-- rows before place k
pub record IsUnfolded (nest : List Group) (rows : List SharedGroups) (k : ℕ) (old new : List Piece) : Type 0 where
  pub spells : (w : List ℕ) → Spells nest new w → Spells nest old w
  pub known : All (IsKnownBefore rows k) new
