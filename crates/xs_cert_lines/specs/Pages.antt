-- Text in a page of bytes, which is appended to others when the page is full.
use Rattle.std.specs.Prelude.{◌≡◌, ℕ, ◌+◌, ◌≤◌, Bool, List, ◌++◌, length, take, drop}
use Rattle.xs_closed.specs.Rows.{places}
use Rattle.xs_cert_lines.specs.Reading.{listed}

-- from one place up to another stands the text, and before it what stood there
pub record Puts (old new : List ℕ) (at end : ℕ) (piece : List ℕ) : Type 0 where
  pub text : take end new ≡ take at old ++ piece
  pub size : length new ≡ length old
  pub is : end ≡ at + length piece

-- some of the front of the text was appended, and what is left of it was not
pub record AppendsFront (old new text : List ℕ) : Type 0 where
  pub left : List ℕ
  pub is : new ++ left ≡ old ++ text
  pub order : length old ≤ length new

-- the page was put after the others, or stays as it is, and has room
pub record Flushes (old new page : List ℕ) (at end : ℕ) : Type 0 where
  pub text : new ++ take end page ≡ old ++ take at page
  pub order : length old ≤ length new
  pub room : end + 728 ≤ length page

-- what was put are the partners of a row from one number up to another
pub record PutsPartners (old new : List ℕ) (at end : ℕ) (row : List Bool) (from to : ℕ) : Type 0 where
  pub text : take end new ++ listed (places to (drop to row)) ≡ take at old ++ listed (places from (drop from row))
  pub size : length new ≡ length old

-- the text was written, some of it to the page
pub record Writes (out page : List ℕ) (at : ℕ) (new_out new_page : List ℕ) (end : ℕ) (piece : List ℕ) : Type 0 where
  pub text : new_out ++ take end new_page ≡ (out ++ take at page) ++ piece
  pub order : length out ≤ length new_out
  pub size : length new_page ≡ length page
