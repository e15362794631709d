-- The laws of lines: where they end, and what they have.
use Rattle.std.specs.Prelude.{◌≡◌, ℕ, ◌^◌, ◌<◌, ◌≤◌, List, [], ◌∷◌, ◌++◌, length, true, false}
use Rattle.xs_closed.specs.Rows.{Row, has_number}
use Rattle.xs_cert_lines.specs.Lines.{Lines, spaced, row_line, set_lines, written}
use Rattle.xs_cert_lines.specs.Numbers.{begins_digit}

-- there is no line feed in the line
abbrev pub IsLine : List ℕ → Type 0
IsLine line = has_number line 10 ≡ false

-- nor in any of these
abbrev pub AreLines : Lines → Type 0
AreLines [] = Unit {0}
AreLines (l ∷ ls) = IsLine l × AreLines ls

-- the same number of lines, each with its end, and then others: they are the same
abbrev pub LinesAreOne : Type 0
LinesAreOne =
    (xs ys : Lines) (r s : List ℕ) → AreLines xs → AreLines ys → length xs ≡ length ys
    → written xs ++ r ≡ written ys ++ s → (xs ≡ ys) × (r ≡ s)

-- of as many lines or more, the first are the same, and others follow
abbrev pub LinesGoOn : Type 0
LinesGoOn =
    (xs ys : Lines) (r s : List ℕ) → AreLines xs → AreLines ys → length xs ≤ length ys
    → written xs ++ r ≡ written ys ++ s → (zs : Lines) × (ys ≡ xs ++ zs) × AreLines zs × (r ≡ written zs ++ s)

-- lines after others
abbrev pub LinesAfterLines : Type 0
LinesAfterLines = (xs ys : Lines) → AreLines xs → AreLines ys → AreLines (xs ++ ys)

-- a text without a line feed has none with numbers after it
abbrev pub SpacedIsLine : Type 0
SpacedIsLine = (text ns : List ℕ) → IsLine text → IsLine (spaced text ns)

-- and no row's line has one
abbrev pub SetsAreLines : Type 0
SetsAreLines = (rs : List Row) → AreLines (set_lines rs)

-- a row's line begins with a digit
abbrev pub RowsBeginWithDigits : Type 0
RowsBeginWithDigits = (r : Row) → begins_digit (row_line r) ≡ true

-- one text with two numbers, each of at most 64 bits, is no other's
abbrev pub PairsAreOne : Type 0
PairsAreOne =
    (text : List ℕ) (h k i j : ℕ) → h < 2 ^ 64 → k < 2 ^ 64 → i < 2 ^ 64 → j < 2 ^ 64
    → spaced text (h ∷ k ∷ []) ≡ spaced text (i ∷ j ∷ []) → (h ≡ i) × (k ≡ j)
