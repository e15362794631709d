-- Text documents: the characters of bytes, and the bytes of characters.
use Rattle.std.specs.Prelude.{◌≡◌, ℕ, ◌≤◌, ◌==◌, List, [], ◌∷◌, length, take, Bool, true, false, encode_utf8_all, if◌then◌else◌}
use Rattle.std.specs.Str.{chars, IsUtf8, all_scalars}
use Rattle.unicode_normalization.specs.Forms.{nfc as composed, nfd as decomposed}
use Rattle.xs_chars.specs.declared.form.Form.{Form}
use Rattle.xs_chars.specs.declared.form.Form.TheVariants.{AsIs, Nfc, Nfd}

-- no text is read that has that many symbols, so that each place in one has a number of 32 bits
abbrev pub symbol_limit : ℕ
symbol_limit = 4294967295

-- each symbol is a character: a Unicode scalar value
abbrev pub AreCharacters : List ℕ → Type 0
AreCharacters w = all_scalars w ≡ true

-- the characters in a normal form of Unicode (UAX 15), or as they are
abbrev pub in_form : Form → List ℕ → List ℕ
in_form AsIs w = w
in_form Nfc w = composed w
in_form Nfd w = decomposed w

-- the byte order mark, U+FEFF
abbrev pub byte_order_mark : ℕ
byte_order_mark = 65279

-- the characters after one byte order mark at the very front, where there is one
abbrev pub without_mark : List ℕ → List ℕ
without_mark [] = []
without_mark (c ∷ w) = if c == byte_order_mark then w else c ∷ w

-- the characters begin with a byte order mark
abbrev pub has_mark : List ℕ → Bool
has_mark [] = false
has_mark (c ∷ w) = c == byte_order_mark

-- one byte order mark more where the characters begin with one
abbrev pub with_mark : List ℕ → List ℕ
with_mark w = if has_mark w then byte_order_mark ∷ w else w

-- the characters of the bytes as UTF-8, without one byte order mark at the very front, in the form
abbrev pub text_of : List ℕ → Form → List ℕ
text_of bytes form = in_form form (without_mark (chars bytes))

-- the UTF-8 of the characters, with one byte order mark more where they begin with one
abbrev pub text_bytes : List ℕ → List ℕ
text_bytes w = encode_utf8_all (with_mark w)

-- the bytes are no UTF-8, and that many are the longest prefix that is
pub record IsUtf8BadAt (bytes : List ℕ) (at : ℕ) : Type 0 where
  pub bad : IsUtf8 bytes → ⊥
  pub within : at ≤ length bytes
  pub front : IsUtf8 (take at bytes)
  pub longest : (n : ℕ) → n ≤ length bytes → IsUtf8 (take n bytes) → n ≤ at
