-- What the texts of steps are written as.
use Rattle.std.specs.Prelude.{◌≡◌, ℕ, ◌≤◌, List, ◌++◌, length, Some, slice_get, slice_range, encode_utf8_all, string_bytes}
use Rattle.xs_xml_out.specs.declared.mode.Mode.{Mode}
use Rattle.xs_xml_out.specs.declared.mode.Mode.TheVariants.{Content, Tag, Value}
use Rattle.xs_xml_out.specs.Written.{mode_after, written}
use Rattle.xs_table_out.specs.declared.steps.Steps.{Steps}
use Rattle.xs_table_out.specs.declared.xml.Cell.{Cell}
use Rattle.xs_table_out.specs.declared.xml.Spelt.{Spelt}
use Rattle.xs_table_out.specs.declared.xml.Spellings.{Spellings}
use Rattle.xs_table_out.specs.Steps.{text_at}

-- a list goes on
abbrev pub GoesOn : List ℕ → List ℕ → Type 0
GoesOn xs ys = (more : List ℕ) × (ys ≡ xs ++ more)

-- the cell has what is written for a word from a mode on
pub record IsCell (names : List (List ℕ)) (mode : Mode) (word bytes : List ℕ) (cell : Cell) : Type 0 where
  pub there : cell.end ≤ length bytes
  pub is : slice_range bytes cell.begin cell.end ≡ encode_utf8_all (written names mode word)
  pub mode_is : cell.after ≡ mode_after mode word

-- the cell of a mode
abbrev pub cell_in : Spelt → Mode → Cell
cell_in spelt Content = spelt.content
cell_in spelt Tag = spelt.tag
cell_in spelt Value = spelt.value

-- the cells have what is written for a word, in each mode
abbrev pub IsSpelt : List (List ℕ) → List ℕ → List ℕ → Spelt → Type 0
IsSpelt names word bytes spelt = (mode : Mode) → IsCell names mode word bytes (cell_in spelt mode)

-- the first ones have what is written for the texts of steps
abbrev pub AreSpeltSoFar : List (List ℕ) → Steps → List ℕ → List Spelt → Type 0
AreSpeltSoFar names steps bytes all = (number : ℕ) (spelt : Spelt) → slice_get all number ≡ Some spelt → IsSpelt names (text_at steps number) bytes spelt

abbrev pub AreSpelt : Steps → Spellings → Type 0
AreSpelt steps s = AreSpeltSoFar s.tags steps (string_bytes s.text) s.all.items
