-- The lines of the smallest documents for the productions of a sheet.
use Rattle.std.specs.Prelude.{ℕ, ◌+◌, List, [], ◌∷◌, ◌++◌, codes, length}
use Rattle.xs_talk.specs.declared.covers.Shown.{Shown}
use Rattle.xs_talk.specs.declared.covers.Shown.TheVariants.{Unreached, Long, Pair}
use Rattle.xs_talk.specs.Lines.{numbered}
use Rattle.xs_talk.specs.Words.{quoted}

-- the line of the word of a side, after the name of the side
abbrev pub word_line : List (List ℕ) → List ℕ → List ℕ → List ℕ
word_line names side word = side ++ quoted names word ++ codes "\n"

-- what is said of a production: that no documents use it, that its smallest are too long, or what they are
abbrev pub shown_lines : List (List ℕ) → Shown → List ℕ
shown_lines names Unreached = codes "not reachable\n"
shown_lines names (Long size) = numbered (codes "size ") size (codes ", too long\n")
shown_lines names (Pair size text xml) = numbered (codes "size ") size (codes "\n") ++ word_line names (codes "text ") text ++ word_line names (codes "xml ") xml

-- the lines of the production of this number, counted from 1
abbrev pub production_lines : List (List ℕ) → ℕ → Shown → List ℕ
production_lines names number shown = numbered (codes "production ") number (codes ": ") ++ shown_lines names shown

-- the lines of productions from this number on
abbrev pub lines_from : List (List ℕ) → ℕ → List Shown → List ℕ
lines_from names number [] = []
lines_from names number (shown ∷ rest) = production_lines names number shown ++ lines_from names (number + 1) rest

-- 1 for a production that some documents use, 0 for another
abbrev pub reached_one : Shown → ℕ
reached_one Unreached = 0
reached_one (Long size) = 1
reached_one (Pair size text xml) = 1

-- how many productions some documents use
abbrev pub reached : List Shown → ℕ
reached [] = 0
reached (shown ∷ rest) = reached_one shown + reached rest

-- the line that closes them: how many of the productions some documents use
abbrev pub reached_line : ℕ → ℕ → List ℕ
reached_line count all = numbered (codes "") count (numbered (codes " of ") all (codes " reachable\n"))

-- the lines of all productions, and the line that closes them
abbrev pub cover_text : List (List ℕ) → List Shown → List ℕ
cover_text names all = lines_from names 1 all ++ reached_line (reached all) (length all)
