-- How the symbols of a word are shown in a line.
use Rattle.std.specs.Prelude.{ℕ, ◌-◌, ◌/◌, ◌%◌, List, [], ◌∷◌, ◌++◌, Bool, false, ◌==◌, ◌&&◌, not, nat_lt, nat_le, codes, encode_utf8_all, if◌then◌else◌, None, Some, slice_get}
use Rattle.std.specs.Fmt.{digits}
use Rattle.std.specs.declared.option.Option.{Option}
use Rattle.std.specs.Option.{option_map}

-- a character that is shown as itself: one of ASCII's from the space to the tilde, but no quote, no backslash
-- and no angle
abbrev pub is_plain : ℕ → Bool
is_plain x = nat_le 32 x && nat_le x 126 && not (x == 34) && not (x == 92) && not (x == 60) && not (x == 62)

-- a number that is no character since it is one of the surrogates
abbrev pub is_surrogate : ℕ → Bool
is_surrogate x = nat_le 55296 x && nat_le x 57343

-- the number in lower-case hexadecimal digits, as \u{h}
abbrev pub escaped : ℕ → List ℕ
escaped x = codes "\\u{" ++ digits 16 false x ++ codes "}"

-- what is shown of a symbol that names nothing
abbrev pub nothing_named : List ℕ
nothing_named = codes "<?>"

-- how the mark of a name begins: its opening, its attribute or its closing
abbrev pub mark_begin : ℕ → List ℕ
mark_begin kind = if kind == 0 then codes "<" else (if kind == 1 then codes "<@" else codes "</")

-- the mark of this kind of a name, given by its bytes
abbrev pub mark_of : ℕ → Option (List ℕ) → List ℕ
mark_of kind None = nothing_named
mark_of kind (Some name) = mark_begin kind ++ name ++ codes ">"

-- a mark by its number after the two that are no name's
abbrev pub mark : List (List ℕ) → ℕ → List ℕ
mark names m = mark_of (m % 3) (option_map encode_utf8_all (slice_get names (m / 3)))

-- a character or a surrogate
abbrev pub character : ℕ → List ℕ
character x = if is_plain x then x ∷ [] else (if is_surrogate x then nothing_named else escaped x)

-- a symbol: a character, the end of an attribute, a strange name, or a mark of a name
abbrev pub symbol : List (List ℕ) → ℕ → List ℕ
symbol names x = if nat_lt x 1114112 then character x else (if x == 1114112 then codes "<@>" else (if x == 1114113 then nothing_named else mark names (x - 1114114)))

-- the symbols of a word, in order
abbrev pub shown : List (List ℕ) → List ℕ → List ℕ
shown names [] = []
shown names (x ∷ xs) = symbol names x ++ shown names xs

-- and between two quotes
abbrev pub quoted : List (List ℕ) → List ℕ → List ℕ
quoted names word = codes "\"" ++ shown names word ++ codes "\""
