-- Lists of characters of XML.
use Rattle.std.proofs.Common.{◌≡◌, ℕ, List, [], ◌∷◌, ◌++◌, true, ◌&&◌, ◌≤◌, refl, arith}
use Rattle.std.specs.Prelude.{nat_le}
use Rattle.std.proofs.lemmas.Bool.Decides.{nat_tests}
use lib.Utf8.{scalar, scalars}
use Rattle.xs_class.specs.Tables.{IsChar, char_table}
use Rattle.xs_xml_laws.specs.Tables.{is_char}
use Rattle.xs_xml_laws.specs.Piece.{all_of}
use Rattle.xs_chars.specs.Text.{AreCharacters}
use Rattle.xs_writing_laws.specs.Laws.{AreChars}
use Rattle.xs_class.proofs.Truth.{and_true, both_true}
use Rattle.xs_class.proofs.TableLaws.{is_in}

pub chars_append : (u v : List ℕ) → AreChars u → AreChars v → AreChars (u ++ v)
chars_append [] v p q = q
chars_append (c ∷ u) v p q = let both = and_true (is_char c) (all_of is_char u) p in both_true (is_char c) (all_of is_char (u ++ v)) both.0 (chars_append u v both.1 q)

within : (low high c : ℕ) → low ≤ c → c ≤ high → (nat_le low c && nat_le c high) ≡ true
within low high c p q = grind (arith, nat_tests)

pub char_tested : (c : ℕ) → IsChar c → is_char c ≡ true
unfolding is_char
char_tested c is = is_in c char_table is

char_scalar : (c : ℕ) → is_char c ≡ true → scalar c ≡ true
unfolding is_char
char_scalar c is = grind (arith, nat_tests, is)

-- characters of XML are characters
pub chars_are_characters : (w : List ℕ) → AreChars w → AreCharacters w
chars_are_characters [] p = refl
chars_are_characters (c ∷ w) p = let both = and_true (is_char c) (all_of is_char w) p in both_true (scalar c) (scalars w) (char_scalar c both.0) (chars_are_characters w both.1)
