-- The lines of an outline, and how each is spelt.
use Rattle.std.specs.Prelude.{◌≡◌, ◌≢◌, ℕ, zero, suc, ◌+◌, ◌/◌, ◌%◌, List, [], ◌∷◌, ◌++◌, length, ◌==◌, nat_lt, if◌then◌else◌, get_or}
use Rattle.std.specs.Str.Parse.{AllDigits, digits_value}
use Rattle.xs_lex.specs.Spelling.{IsQuoted}
use Rattle.xs_sheet.specs.Layout.{quoted}

-- what follows the name in a line: the production of a node, counted from 0, or the word of a leaf
pub data Entry : Type 0 where
  production : ℕ → Entry
  leaf_word : List ℕ → Entry

-- a node or a leaf: how deep it is, the name of its slot, and what it is
pub record Line : Type 0 where
  pub depth : ℕ
  pub name : List ℕ
  pub entry : Entry

abbrev pub line : ℕ → List ℕ → Entry → Line
line depth name entry = record { depth = depth; name = name; entry = entry }

-- decimal digits that have this value, without a leading zero unless they are one
pub record IsNumeral (digits : List ℕ) (n : ℕ) : Type 0 where
  pub some : digits ≢ []
  pub each : AllDigits 10 digits
  pub value : digits_value 10 digits ≡ n
  pub leading : get_or digits 0 0 ≡ 48 → length digits ≡ 1

-- a production is spelt by its number, counted from 1, and a word by any quoted string that stands
-- for it
abbrev pub SpellsEntry : Entry → List ℕ → Type 0
SpellsEntry (production q) text = IsNumeral text (suc q)
SpellsEntry (leaf_word w) text = IsQuoted text w

-- no symbol of the list is this one
abbrev pub Lacks : ℕ → List ℕ → Type 0
Lacks c [] = Unit {0}
Lacks c (x ∷ xs) = (x ≢ c) × Lacks c xs

-- the depth, the name, and the entry, with one space between; no name has a space
pub record SpellsLine (l : Line) (text : List ℕ) : Type 0 where
  pub depth : List ℕ
  pub entry : List ℕ
  pub is : text ≡ depth ++ 32 ∷ (l.name ++ 32 ∷ entry)
  pub depth_is : IsNumeral depth l.depth
  pub name_is : Lacks 32 l.name
  pub entry_is : SpellsEntry l.entry entry

-- each text spells the line in its place
abbrev pub AreSpelt : List Line → List (List ℕ) → Type 0
AreSpelt [] [] = Unit {0}
AreSpelt [] (t ∷ ts) = ⊥
AreSpelt (l ∷ ls) [] = ⊥
AreSpelt (l ∷ ls) (t ∷ ts) = SpellsLine l t × AreSpelt ls ts

-- the lines of a document, each ended by LF; that of the last may be left out
abbrev pub with_first : ℕ → List (List ℕ) → List (List ℕ)
with_first c [] = (c ∷ []) ∷ []
with_first c (t ∷ ts) = (c ∷ t) ∷ ts

abbrev pub text_lines : List ℕ → List (List ℕ)
text_lines [] = []
text_lines (c ∷ cs) = if c == 10 then [] ∷ text_lines cs else with_first c (text_lines cs)

-- the digits of a number, as far as it has that many: those of its tenth, then the last one
abbrev pub digits_within : ℕ → ℕ → List ℕ
digits_within zero n = []
digits_within (suc k) n = if nat_lt n 10 then (48 + n) ∷ [] else digits_within k (n / 10) ++ (48 + n % 10) ∷ []

-- how a number is written
unfoldable pub number_text : ℕ → List ℕ
number_text n = digits_within (suc n) n

-- how an entry and a line are written, the line with its LF
abbrev pub entry_text : Entry → List ℕ
entry_text (production q) = number_text (suc q)
entry_text (leaf_word w) = quoted w

abbrev pub line_text : Line → List ℕ
line_text l = number_text l.depth ++ 32 ∷ (l.name ++ 32 ∷ (entry_text l.entry ++ 10 ∷ []))

abbrev pub lines_text : List Line → List ℕ
lines_text [] = []
lines_text (l ∷ ls) = line_text l ++ lines_text ls
