-- Text is read back, and what is encoded is decoded.
use Rattle.std.specs.Prelude.{◌≡◌, ℕ, List, encode_utf8_all}
use Rattle.std.specs.Str.{IsUtf8, chars}
use Rattle.xs_chars.specs.declared.reading.DecodeFault.{DecodeFault}
use Rattle.xs_chars.specs.declared.reading.DecodeFault.TheVariants.{NotUtf8, Memory}
use Rattle.xs_chars.specs.declared.form.Form.TheVariants.{AsIs}
use Rattle.xs_chars.specs.Text.{AreCharacters, text_of, text_bytes, IsUtf8BadAt}

-- when each refusal comes
abbrev pub IsFault : List ℕ → DecodeFault → Type 0
IsFault bytes (NotUtf8 at) = IsUtf8BadAt bytes at
IsFault bytes Memory = Unit {0}

-- a word of characters, written and read as it is, is that word
abbrev pub IsReadBack : Type 0
IsReadBack = (w : List ℕ) → AreCharacters w → IsUtf8 (text_bytes w) × (text_of (text_bytes w) AsIs ≡ w)

-- a word of characters, encoded and decoded, is that word
abbrev pub IsDecodedBack : Type 0
IsDecodedBack = (w : List ℕ) → AreCharacters w → IsUtf8 (encode_utf8_all w) × (chars (encode_utf8_all w) ≡ w)
