-- The lines of a certificate as bytes, without the line feeds that end them.
use Rattle.std.specs.Prelude.{ℕ, List, [], ◌∷◌, ◌++◌, map, flat_map, decimal}
use Rattle.xs_closed.specs.Rows.{Row}

abbrev pub Lines : Type 0
Lines = List (List ℕ)

-- a text and numbers, with one space before each
abbrev pub spaced : List ℕ → List ℕ → List ℕ
spaced text [] = text
spaced text (n ∷ ns) = spaced (text ++ 32 ∷ decimal n) ns

-- a row: its number and its partners
abbrev pub row_line : Row → List ℕ
row_line r = spaced (decimal r.state) r.partners

-- the lines of a set
abbrev pub set_lines : List Row → Lines
set_lines rs = map row_line rs

-- a line with its end
abbrev pub ended : List ℕ → List ℕ
ended line = line ++ 10 ∷ []

-- lines one after another, each with its end
abbrev pub written : Lines → List ℕ
written ls = flat_map ended ls
