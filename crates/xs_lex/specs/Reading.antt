-- The token at a place, and the tokens of a file.
use Rattle.std.specs.Prelude.{◌≡◌, ◌⊎◌, ℕ, ◌+◌, ◌≤◌, Bool, List, [], ◌∷◌, ◌++◌, length, take, ◌==◌, ◌&&◌, if◌then◌else◌, encode_utf8_all, slice_range}
use Rattle.std.specs.Str.{chars, IsUtf8}
use Rattle.std.specs.Str.Lossy.{utf8_valid_len}
use Rattle.xs_lex.specs.declared.token.Token.{Token}
use Rattle.xs_lex.specs.declared.kind.Kind.{Kind}
use Rattle.xs_lex.specs.declared.kind.Kind.TheVariants.{End, Bad}
use Rattle.xs_lex.specs.Spelling.{Spells}
use Rattle.xs_lex.specs.Between.{IsApart}
use Rattle.xs_class.specs.Words.{is_empty}

-- the text is a token's word, then rest
pub record BeginsWith (text : List ℕ) (kind : Kind) (word rest : List ℕ) : Type 0 where
  pub spells : Spells kind word
  pub is : text ≡ word ++ rest

-- the longest token that the text begins with
pub record IsTokenAt (text : List ℕ) (kind : Kind) (word rest : List ℕ) : Type 0 where
  pub begins : BeginsWith text kind word rest
  pub longest : (k : Kind) (w r : List ℕ) → BeginsWith text k w r → length w ≤ length word

-- the text begins with no token
abbrev pub NoToken : List ℕ → Type 0
NoToken text = (k : Kind) (w r : List ℕ) → BeginsWith text k w r → ⊥

-- a token with its word; start is counted in bytes, line from 1
pub record Lexeme : Type 0 where
  pub kind : Kind
  pub word : List ℕ
  pub start : ℕ
  pub line : ℕ

-- the part of a file that is UTF-8: its length in bytes, its number of lines, and whether it is the whole
pub record Extent : Type 0 where
  pub size : ℕ
  pub lines : ℕ
  pub whole : Bool

abbrev pub size_of : List ℕ → ℕ
size_of text = length (encode_utf8_all text)

-- the number of LF
abbrev pub line_ends : List ℕ → ℕ
line_ends [] = 0
line_ends (c ∷ cs) = if c == 10 then line_ends cs + 1 else line_ends cs

-- the token stands where rest is what is left of the file
pub record StandsAt (extent : Extent) (token : Lexeme) (rest : List ℕ) : Type 0 where
  pub start : token.start + size_of rest ≡ extent.size
  pub line : token.line + line_ends rest ≡ extent.lines

-- at the end of the file, or where no token, white space or comment can be read
pub record IsLast (extent : Extent) (token : Lexeme) (rest : List ℕ) : Type 0 where
  pub none : NoToken rest
  pub kind : token.kind ≡ (if extent.whole && is_empty rest then End else Bad)
  pub word : token.word ≡ []

-- the tokens of what is left of a file, each after what may stand between tokens
abbrev pub AreTokensFrom : Extent → List ℕ → List Lexeme → Type 0
AreTokensFrom extent text [] = ⊥
AreTokensFrom extent text (t ∷ ts) = (rest : List ℕ) × IsApart text rest × StandsAt extent t rest × (((ts ≡ []) × IsLast extent t rest) ⊎ ((after : List ℕ) × IsTokenAt rest t.kind t.word after × AreTokensFrom extent after ts))

-- the bytes up to the first place that is not UTF-8
abbrev pub valid : List ℕ → List ℕ
valid bytes = take (utf8_valid_len bytes) bytes

-- the byte order mark, U+FEFF, is skipped
abbrev pub after_mark : List ℕ → List ℕ
after_mark [] = []
after_mark (c ∷ cs) = if c == 0xFEFF then cs else c ∷ cs

abbrev pub extent_of : List ℕ → Extent
extent_of bytes = record { size = utf8_valid_len bytes; lines = 1 + line_ends (chars (valid bytes)); whole = utf8_valid_len bytes == length bytes }

-- these are the tokens of the bytes of a file
abbrev pub AreTokens : List ℕ → List Lexeme → Type 0
AreTokens bytes ts = AreTokensFrom (extent_of bytes) (after_mark (chars (valid bytes))) ts

-- a token of the file with its word, the characters of its slice of the bytes
abbrev pub lexeme_of : List ℕ → Token → Lexeme
lexeme_of bytes t = record { kind = t.kind; word = chars (slice_range bytes t.start t.end); start = t.start; line = t.line }

-- the token's span is a slice of the bytes, and UTF-8
pub record IsSlice (bytes : List ℕ) (t : Token) : Type 0 where
  pub ordered : t.start ≤ t.end
  pub within : t.end ≤ length bytes
  pub text : IsUtf8 (slice_range bytes t.start t.end)
