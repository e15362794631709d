-- Rows of a set that were read, as far as they are right.
use Rattle.std.specs.Prelude.{◌≡◌, ℕ, ◌+◌, List, [], ◌∷◌, ◌++◌, length, take, Option, None, Some}
use Rattle.xs_closed.specs.Rows.{Grid, Row, IsSized, IsSet, rows_of}
use Rattle.xs_cert_lines.specs.Lines.{set_lines}
use Rattle.xs_cert.specs.declared.place.Place.{Place}
use Rattle.xs_cert.specs.declared.place.Reading.{Reading}
use Rattle.xs_cert.specs.declared.place.Reading.TheVariants.{Whole, Broken}
use Rattle.xs_cert.specs.Places.{IsPast, Stand}

-- the rows of the table stand between the two places, and no rows of a set of such a table go
-- further
pub record AreRowsAt (bytes : List ℕ) (p : Place) (high wide : ℕ) (q : Place) (z : Grid) : Type 0 where
  pub sized : IsSized high wide z
  pub past : IsPast bytes p (set_lines (rows_of z)) q
  pub most : (rs : List Row) → IsSet high wide rs → Stand bytes p (set_lines rs) → rs ≡ take (length rs) (rows_of z)

-- the rows are right, and all that are right and stand at the place are the first of them
pub record AreLongest (P : List Row → Type 0) (bytes : List ℕ) (p : Place) (rows : List Row) : Type 0 where
  pub right : P rows
  pub most : (rs : List Row) → P rs → Stand bytes p (set_lines rs) → rs ≡ take (length rs) rows

-- the rows stand at the place, and another row after them
pub record AreCutOff (bytes : List ℕ) (p : Place) (rows : List Row) (most : ℕ) : Type 0 where
  pub next : Row
  pub stand : Stand bytes p (set_lines (rows ++ next ∷ []))
  pub count : most ≡ p.lines + length rows

-- how far the rows were read
abbrev pub ReachTo : List ℕ → Place → List Row → Reading → Type 0
ReachTo bytes p rows (Whole q) = IsPast bytes p (set_lines rows) q
ReachTo bytes p rows (Broken most) = AreCutOff bytes p rows most

-- the longest right rows of a set, or that none are right
abbrev pub IsRowsReading : (List Row → Type 0) → List ℕ → Place → Option Reading → Type 0
IsRowsReading P bytes p None = (rs : List Row) → P rs → Stand bytes p (set_lines rs) → ⊥
IsRowsReading P bytes p (Some r) = (rows : List Row) × AreLongest P bytes p rows × ReachTo bytes p rows r

-- how far it was read where only that many lines are good if no rows are right
abbrev pub reading_of : ℕ → Option Reading → Reading
reading_of lines None = Broken lines
reading_of lines (Some r) = r
