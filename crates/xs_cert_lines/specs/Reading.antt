-- Rows at the front of bytes, and what marking them does to a table.
use Rattle.std.specs.Prelude.{◌≡◌, ◌≢◌, ℕ, suc, ◌≤◌, ◌<◌, List, [], ◌∷◌, ◌++◌, length, ◌&&◌, ◌||◌, nat_eq, decimal}
use Rattle.std.specs.List.{All}
use Rattle.xs_closed.specs.Rows.{Grid, Row, IsRow, IsSized, Ascends, marked, has_number}
use Rattle.xs_cert_lines.specs.Lines.{row_line}

-- partners as they stand in a row's line, a space before each
abbrev pub listed : List ℕ → List ℕ
listed [] = []
listed (b ∷ bs) = 32 ∷ (decimal b ++ listed bs)

-- the bytes are partners that ascend, from the first that may come on and below the end, a line
-- feed, and the rest
pub record ArePartners (first end : ℕ) (bytes bs rest : List ℕ) : Type 0 where
  pub is : bytes ≡ listed bs ++ 10 ∷ rest
  pub some : bs ≢ []
  pub order : Ascends first bs
  pub within : All (λ b. b < end) bs

-- there are such partners
pub record HasPartners (first end : ℕ) (bytes rest : List ℕ) : Type 0 where
  pub partners : List ℕ
  pub are : ArePartners first end bytes partners rest

-- the pairs of a number and of each partner are marked too
pub record MarksAll (old new : Grid) (a : ℕ) (bs : List ℕ) : Type 0 where
  pub sized : IsSized (length old.rows) old.wide new
  pub marks : (c d : ℕ) → marked new c d ≡ (marked old c d || (nat_eq a c && has_number bs d))

-- pairs of a number are marked too, and no others
pub record MarksIn (old new : Grid) (a : ℕ) : Type 0 where
  pub sized : IsSized (length old.rows) old.wide new
  pub others : (c d : ℕ) → (c ≡ a → ⊥) → marked new c d ≡ marked old c d

-- there are such partners, and their pairs are marked too
pub record ReadsPartners (old new : Grid) (a : ℕ) (bytes rest : List ℕ) : Type 0 where
  pub partners : List ℕ
  pub are : ArePartners 0 old.wide bytes partners rest
  pub marks : MarksAll old new a partners

-- the same pairs are marked
pub record IsSameSet (old new : Grid) : Type 0 where
  pub sized : (high wide : ℕ) → IsSized high wide old → IsSized high wide new
  pub same : (c d : ℕ) → marked new c d ≡ marked old c d

-- the bytes are a row's line, whose number is at least the first and below the end, and the rest
pub record IsRowAt (first high wide : ℕ) (bytes : List ℕ) (r : Row) (rest : List ℕ) : Type 0 where
  pub is : bytes ≡ row_line r ++ 10 ∷ rest
  pub order : first ≤ r.state
  pub within : r.state < high
  pub row : IsRow wide r

-- a row that stands at the front is marked too, and numbers from the next on may come after it
pub record AddsRow (first : ℕ) (old new : Grid) (bytes : List ℕ) (next : ℕ) (rest : List ℕ) : Type 0 where
  pub row : Row
  pub is : next ≡ suc row.state
  pub at : IsRowAt first (length old.rows) old.wide bytes row rest
  pub adds : MarksAll old new row.state row.partners

-- the first number that may come after the rows
abbrev pub next_state : ℕ → List Row → ℕ
next_state first [] = first
next_state first (r ∷ rs) = next_state (suc r.state) rs
