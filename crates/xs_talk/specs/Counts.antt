-- Lines of answers that have counts.
use Rattle.std.specs.Prelude.{ℕ, List, ◌++◌, codes, decimal, length}
use Rattle.xs_pair.specs.Grammars.{Pair}

-- a number after one text and before another
abbrev pub counted : List ℕ → ℕ → List ℕ → List ℕ
counted before count after = before ++ decimal count ++ after

-- the line of an accepted sheet
abbrev pub accepted_line : Pair → List ℕ
accepted_line p =
    counted (counted (counted (counted (codes "accepted: ") (length p.text.terms) (codes " terminals, ")) (length p.text.skips) (codes " ignorables, ")) p.text.nons (codes " nonterminals, ")) (length p.text.rules) (codes " productions\n")

-- the line of a text that was made: its lines, its bytes, those of its XML document, the parts of its tree
abbrev pub summary : ℕ → ℕ → ℕ → ℕ → List ℕ
summary lines text xml parts =
    counted (counted (counted (counted (codes "make: lines ") lines (codes ", text ")) text (codes " bytes, xml ")) xml (codes " bytes, tree ")) parts (codes " parts\n")
