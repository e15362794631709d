-- Made texts, as bytes: each part by the state at which it is drawn, and the state after it.
use Rattle.std.specs.Prelude.{ℕ, zero, suc, ◌+◌, List, [], ◌∷◌, ◌++◌, ◌==◌, ◌&&◌, nat_lt, codes, decimal, encode_utf8_all, if◌then◌else◌}
use Rattle.xs_leiden.specs.Draws.{next, drawn}
use Rattle.xs_leiden.specs.Words.{word_at, dotted_at}

-- a word that is drawn
abbrev pub word : ℕ → List ℕ
word x = encode_utf8_all (word_at (drawn 8 x))

-- a digit from 1 to 9 that is drawn
abbrev pub digit : ℕ → List ℕ
digit x = (49 + drawn 9 x) ∷ []

-- an item of this kind, drawn from this state on: a word, lost letters, letters that cannot be read, a word
-- that is supplied, a word with its ending expanded, a word whose letters are unclear
abbrev pub item_of : ℕ → ℕ → List ℕ
item_of kind x =
    if nat_lt kind 3 then word x
    else (if kind == 3 then codes "[." ++ digit x ++ codes "]"
    else (if kind == 4 then codes "." ++ digit x
    else (if kind == 5 then codes "[" ++ word x ++ codes "]"
    else (if kind == 6 then codes "(" ++ word x ++ codes "(" ++ word (next x) ++ codes "))"
    else encode_utf8_all (dotted_at (drawn 8 x))))))

-- one draw, or two for a word with its ending expanded
abbrev pub after_item_of : ℕ → ℕ → ℕ
after_item_of kind x = if kind == 6 then next (next x) else next x

-- an item; its kind is drawn first
abbrev pub item : ℕ → List ℕ
item x = item_of (drawn 8 x) (next x)

abbrev pub after_item : ℕ → ℕ
after_item x = after_item_of (drawn 8 x) (next x)

-- that many items more, each after a space
abbrev pub after_items : ℕ → ℕ → ℕ
after_items zero x = x
after_items (suc n) x = after_item (after_items n x)

abbrev pub more_items : ℕ → ℕ → List ℕ
more_items zero x = []
more_items (suc n) x = more_items n x ++ codes " " ++ item (after_items n x)

-- the number of a line; one line in four, but not the first, goes on with the word of the line before
abbrev pub line_begin : ℕ → ℕ → List ℕ
line_begin i x = decimal i ++ (if drawn 4 x == 0 && nat_lt 1 i then codes ".- " else codes ". ")

-- a line: its beginning, and one to five items
abbrev pub line : ℕ → ℕ → List ℕ
line i x = line_begin i x ++ item (next (next x)) ++ more_items (drawn 5 (next x)) (after_item (next (next x)))

abbrev pub after_line : ℕ → ℕ
after_line x = after_items (drawn 5 (next x)) (after_item (next (next x)))

-- that many lines, numbered from 1, each ended by a line feed
abbrev pub after_lines : ℕ → ℕ → ℕ
after_lines zero x = x
after_lines (suc n) x = after_line (after_lines n x)

abbrev pub lines : ℕ → ℕ → List ℕ
lines zero x = []
lines (suc n) x = lines n x ++ line (suc n) (after_lines n x) ++ codes "\n"

-- the block of that many lines that is made from a seed
abbrev pub made_text : ℕ → ℕ → List ℕ
made_text seed n = codes "<=\n" ++ lines n seed ++ codes "=>\n"
