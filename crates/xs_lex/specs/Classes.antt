-- The characters that names and the space between tokens are made of.
use Rattle.std.specs.Prelude.{ℕ, Bool, false, List, [], ◌∷◌, ◌++◌, ◌==◌, ◌&&◌, ◌||◌, not}
use Rattle.std.specs.List.{list_all}
use Rattle.xs_class.specs.Tables.{name_start_table, name_more_table, in_ranges, is_name_start}

unfoldable pub is_name_char : ℕ → Bool
is_name_char c = in_ranges c (name_start_table ++ name_more_table)

-- the characters of names other than the colon
unfoldable pub is_plain_start : ℕ → Bool
is_plain_start c = is_name_start c && not (c == 58)

unfoldable pub is_plain_char : ℕ → Bool
is_plain_char c = is_name_char c && not (c == 58)

-- one character that may begin a plain name, then any number that may stand in it
abbrev pub is_plain : List ℕ → Bool
is_plain [] = false
is_plain (c ∷ cs) = is_plain_start c && list_all is_plain_char cs

-- space, tab, CR, LF
unfoldable pub is_white : ℕ → Bool
is_white c = c == 32 || (c == 9 || (c == 13 || c == 10))
