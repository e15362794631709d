-- The laws of reading.
use Rattle.std.specs.Prelude.{◌≡◌, ℕ, List}
use Rattle.xs_xml_laws.specs.Reads.{Reads}

-- a document has one reading
abbrev pub OneReading : Type 0
OneReading = (names : List (List ℕ)) (doc v w : List ℕ) → Reads names doc v → Reads names doc w → v ≡ w
