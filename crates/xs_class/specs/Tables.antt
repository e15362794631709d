-- The characters and names of XML 1.0, fifth edition, sections 2.2 and 2.3.
use Rattle.std.specs.Prelude.{ℕ, List, [], ◌∷◌, ◌++◌, ◌&&◌, ◌||◌, nat_le, Bool, false}
use Rattle.xs_class.specs.Classes.{Has}

-- Char
abbrev pub char_table : List (ℕ × ℕ)
char_table = (0x9, 0x9) ∷ (0xA, 0xA) ∷ (0xD, 0xD) ∷ (0x20, 0xD7FF) ∷ (0xE000, 0xFFFD) ∷ (0x10000, 0x10FFFF) ∷ []

-- NameStartChar
abbrev pub name_start_table : List (ℕ × ℕ)
name_start_table =
    (0x3A, 0x3A) ∷ (0x41, 0x5A) ∷ (0x5F, 0x5F) ∷ (0x61, 0x7A) ∷ (0xC0, 0xD6) ∷ (0xD8, 0xF6) ∷ (0xF8, 0x2FF) ∷ (0x370, 0x37D) ∷ (0x37F, 0x1FFF)
    ∷ (0x200C, 0x200D) ∷ (0x2070, 0x218F) ∷ (0x2C00, 0x2FEF) ∷ (0x3001, 0xD7FF) ∷ (0xF900, 0xFDCF) ∷ (0xFDF0, 0xFFFD) ∷ (0x10000, 0xEFFFF) ∷ []

-- what NameChar has beside NameStartChar
abbrev pub name_more_table : List (ℕ × ℕ)
name_more_table = (0x2D, 0x2D) ∷ (0x2E, 0x2E) ∷ (0x30, 0x39) ∷ (0xB7, 0xB7) ∷ (0x300, 0x36F) ∷ (0x203F, 0x2040) ∷ []

abbrev pub IsChar : ℕ → Type 0
IsChar c = Has char_table c

abbrev pub IsNameStart : ℕ → Type 0
IsNameStart c = Has name_start_table c

abbrev pub IsNameChar : ℕ → Type 0
IsNameChar c = Has (name_start_table ++ name_more_table) c

-- the same as tests: whether a number is in one of the ranges
abbrev pub in_ranges : ℕ → List (ℕ × ℕ) → Bool
in_ranges c [] = false
in_ranges c (r ∷ rs) = (nat_le r.0 c && nat_le c r.1) || in_ranges c rs

unfoldable pub is_name_start : ℕ → Bool
is_name_start c = in_ranges c name_start_table
