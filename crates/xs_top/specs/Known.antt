-- The bytes of a command's sheet, where they are known.
use Rattle.std.specs.Prelude.{◌≡◌, ℕ, ◌≤◌, List, length, None, Some}
use Rattle.xs_io.specs.Shown.{Files}
use Rattle.xs_leiden.specs.Sheet.{leiden_core, leiden_core_2}
use Rattle.xs_words.specs.Command.{Sheet as Named, leiden, leiden2, file}

-- it is a shipped sheet, or the shelf tells that the file has these bytes, at most 65,536
abbrev pub HasBytes : Files → Named → List ℕ → Type 0
HasBytes files leiden bytes = bytes ≡ leiden_core
HasBytes files leiden2 bytes = bytes ≡ leiden_core_2
HasBytes None (file name) bytes = ⊥
HasBytes (Some files) (file name) bytes = (files name ≡ Some bytes) × (length bytes ≤ 65536)
