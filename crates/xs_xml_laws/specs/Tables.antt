-- The classes of characters of XML 1.0, fifth edition, as tests on the tables of their ranges, whose ends belong to them.
use Rattle.std.specs.Prelude.{ℕ, [], ◌∷◌, ◌==◌, ◌||◌, Bool}
use Rattle.xs_class.specs.Tables.{char_table, name_more_table, in_ranges, is_name_start}

-- Char (section 2.2)
unfoldable pub is_char : ℕ → Bool
is_char c = in_ranges c char_table

-- NameChar (section 2.3)
unfoldable pub is_name_char : ℕ → Bool
is_name_char c = is_name_start c || in_ranges c name_more_table

-- S, white space (section 2.3): space, tab, CR, LF
unfoldable pub is_white : ℕ → Bool
is_white c = in_ranges c ((9, 10) ∷ (13, 13) ∷ (32, 32) ∷ [])

unfoldable pub is_digit : ℕ → Bool
is_digit c = in_ranges c ((48, 57) ∷ [])

-- a hexadecimal digit of either case
unfoldable pub is_hex : ℕ → Bool
is_hex c = in_ranges c ((48, 57) ∷ (65, 70) ∷ (97, 102) ∷ [])

-- " or '
unfoldable pub is_quote : ℕ → Bool
is_quote c = c == 34 || c == 39
