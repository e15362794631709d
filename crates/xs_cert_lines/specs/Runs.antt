-- What is read of a certificate from some byte on.
use Rattle.std.specs.Prelude.{◌≡◌, ℕ, ◌≤◌, List, ◌++◌, length, take, drop}
use Rattle.xs_closed.specs.Rows.{Grid, Row, IsSized, IsSet, rows_of}
use Rattle.xs_cert_lines.specs.Lines.{Lines, written, set_lines}

-- the bytes go on with others
pub record GoesOn (bytes with' : List ℕ) : Type 0 where
  pub rest : List ℕ
  pub is : bytes ≡ with' ++ rest

-- from one byte to another stand these lines
pub record IsFrom (bytes : List ℕ) (start end : ℕ) (ls : Lines) : Type 0 where
  pub order : start ≤ end
  pub within : end ≤ length bytes
  pub is : drop start bytes ≡ written ls ++ drop end bytes

-- the lines of the rows of the table stand between the two bytes, and no rows of a set of such a
-- table go further
pub record IsRun (bytes : List ℕ) (start : ℕ) (high wide : ℕ) (end many : ℕ) (z : Grid) : Type 0 where
  pub sized : IsSized high wide z
  pub there : IsFrom bytes start end (set_lines (rows_of z))
  pub count : many ≡ length (rows_of z)
  pub most : (rs : List Row) → IsSet high wide rs → GoesOn (drop start bytes) (written (set_lines rs)) → rs ≡ take (length rs) (rows_of z)
