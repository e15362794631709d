-- Which groups of a nest share a word, and how such a word is spelt.
use Rattle.std.specs.Prelude.{◌≡◌, ℕ, ◌+◌, ◌*◌, ◌<◌, ◌≤◌, ◌&&◌, ◌⊎◌, ⊤, Bool, nat_lt, true, false, List, [], ◌∷◌, ◌++◌, length, get_or, set, slice_get, slice_range, sum_by, Some}
use Rattle.std.specs.List.{All}
use Rattle.xs_auto.specs.Nets.{states}
use Rattle.xs_auto.specs.Nests.{Group, group_at, HaveOneFence, ShareContent}
use Rattle.xs_meet.specs.declared.piece.Piece.{Piece}
use Rattle.xs_meet.specs.declared.piece.Piece.TheVariants.{Symbol, Groups}
use Rattle.xs_meet.specs.declared.shared_groups.SharedGroups.{SharedGroups}
use Rattle.xs_meet.specs.Closed.{IsSettled}
use Rattle.xs_meet.specs.Pieces.{Spells}

-- the number of groups; for each two of them, by rows, whether they are known to share a word; and
-- for those that are, in the order in which they were found, the pieces that spell one
pub record Sharing : Type 0 where
  pub groups : ℕ
  pub table : List Bool
  pub rows : List SharedGroups
  pub pieces : List Piece

-- the table has a cell for each two groups
abbrev pub HasCells : Sharing → Type 0
HasCells s = length s.table ≡ s.groups * s.groups

-- whether groups g and h are known to share a word
abbrev pub has_at : Sharing → ℕ → ℕ → Bool
has_at s g h = nat_lt g s.groups && (nat_lt h s.groups && get_or s.table (g * s.groups + h) false)

-- they are
abbrev pub AreKnown : Sharing → ℕ → ℕ → Type 0
AreKnown s g h = has_at s g h ≡ true

-- the row is of these two groups, in either order
abbrev pub IsOf : SharedGroups → ℕ → ℕ → Type 0
IsOf row g h = ((row.first ≡ g) × (row.second ≡ h)) ⊎ ((row.first ≡ h) × (row.second ≡ g))

-- a row before place k is of these two groups
pub record IsListed (rows : List SharedGroups) (k g h : ℕ) : Type 0 where
  pub place : ℕ
  pub row : SharedGroups
  pub before : place < k
  pub at : slice_get rows place ≡ Some row
  pub is_of : IsOf row g h

-- the piece is a symbol, or of two groups that a row before place k is of
abbrev pub IsKnownBefore : List SharedGroups → ℕ → Piece → Type 0
IsKnownBefore rows k (Symbol s) = ⊤
IsKnownBefore rows k (Groups g h) = IsListed rows k g h

-- the row at place k has pieces that spell words that its groups share, by rows before it
pub record IsRow (nest : List Group) (s : Sharing) (k : ℕ) (row : SharedGroups) : Type 0 where
  pub order : row.start ≤ row.end
  pub within : row.end ≤ length s.pieces
  pub exists : row.first < length nest
  pub spells : (w : List ℕ) → Spells nest (slice_range s.pieces row.start row.end) w → ShareContent nest row.first row.second w
  pub known : All (IsKnownBefore s.rows k) (slice_range s.pieces row.start row.end)

-- groups that are known to share a word do, in either order, and a row spells it
pub record IsSharing (nest : List Group) (s : Sharing) : Type 0 where
  pub groups : s.groups ≡ length nest
  pub cells : HasCells s
  pub rows : (k : ℕ) (row : SharedGroups) → slice_get s.rows k ≡ Some row → IsRow nest s k row
  pub listed : (g h : ℕ) → AreKnown s g h → IsListed s.rows (length s.rows) g h
  pub turned : (g h : ℕ) → AreKnown s g h → AreKnown s h g

-- groups are known to share a word exactly where they do
pub record IsSharedOf (nest : List Group) (s : Sharing) : Type 0 where
  pub sharing : IsSharing nest s
  pub settled : IsSettled nest (AreKnown s)

-- the table with the cells of two groups, in either order
abbrev pub with_cells : Sharing → ℕ → ℕ → List Bool
with_cells s g h = set (set s.table (g * s.groups + h) true) (h * s.groups + g) true

-- the two groups share what the pieces spell, and all else is the same
pub record AddsRow (old new : Sharing) (g h : ℕ) (ps : List Piece) : Type 0 where
  pub groups : new.groups ≡ old.groups
  pub table : new.table ≡ with_cells old g h
  pub pieces : new.pieces ≡ old.pieces ++ ps
  pub rows : new.rows ≡ old.rows ++ (record { first = g; second = h; start = length old.pieces; end = length old.pieces + length ps }) ∷ []

-- 1 for a cell that is not marked
abbrev pub unmarked : Bool → ℕ
unmarked true = 0
unmarked false = 1

-- the number of cells of the table that are not marked
abbrev pub left_over : Sharing → ℕ
left_over s = sum_by unmarked s.table

-- the contents of each two groups of one fence have no more pairs of states than that
abbrev pub HasRoom : List Group → ℕ → Type 0
HasRoom nest cells = (g h : ℕ) → g < length nest → h < length nest → HaveOneFence (group_at nest g) (group_at nest h) → states (group_at nest g).content * states (group_at nest h).content ≤ cells
