-- How tokens are read from the front of a list of characters: each function gives a number of characters.
use Rattle.std.specs.Prelude.{ℕ, ◌+◌, ◌*◌, ◌<◌, ◌≤◌, ◌++◌, Bool, true, false, List, [], ◌∷◌, drop, None, Some, ◌==◌, ◌&&◌, not, nat_le, nat_lt, if◌then◌else◌}
use Rattle.std.specs.declared.option.Option.{Option}
use Rattle.std.specs.Char.{digit_value}
use Rattle.xs_lex.specs.declared.kind.Kind.{Kind}
use Rattle.xs_lex.specs.declared.kind.Kind.TheVariants.{Plain, Qual, Quoted, Pattern, Colon, Equals, SquareIn, SquareOut, Angle, AngleSlash, AngleEnd, SlashEnd}
use Rattle.xs_lex.specs.declared.quoted.Spot.{Spot}
use Rattle.xs_lex.specs.declared.quoted.Spot.TheVariants.{Between, Escaped, Opened, Digits}
use Rattle.xs_lex.specs.Classes.{is_plain_start, is_plain_char, is_white}
use Rattle.xs_lex.specs.Units.{is_escape, escape_char, is_hex, is_scalar}
use Rattle.xs_lex.specs.Spelling.{begins_with}

-- how many characters of a class stand at the front, after k others
abbrev pub run_end : (ℕ → Bool) → ℕ → List ℕ → ℕ
run_end f k [] = k
run_end f k (c ∷ cs) = if f c then run_end f (k + 1) cs else k

-- white space and comments; inside: in a comment
abbrev pub blank_end : Bool → ℕ → List ℕ → ℕ
blank_end inside k [] = k
blank_end true k (c ∷ cs) = blank_end (not (c == 10)) (k + 1) cs
blank_end false k (c ∷ cs) = if is_white c then blank_end false (k + 1) cs else (if c == 35 then blank_end true (k + 1) cs else k)

-- a quoted string from inside it: where a unit has come to by one more character
abbrev pub spot_if : Bool → Spot → Option Spot
spot_if true s = Some s
spot_if false s = None

abbrev pub spot_after : Spot → ℕ → Option Spot
spot_after Between c = if c == 92 then Some Escaped else spot_if (not (c == 10)) Between
spot_after Escaped c = if c == 117 then Some Opened else spot_if (is_escape c) Between
spot_after Opened c = spot_if (c == 123) (Digits 0 0)
spot_after (Digits n v) c = if c == 125 then spot_if (nat_le 1 n && is_scalar v) Between else spot_if (nat_lt n 6 && (is_hex c && nat_lt (v * 16 + digit_value c) 0x110000)) (Digits (n + 1) (v * 16 + digit_value c))

-- at most six digits, of a character's number
abbrev pub IsBounded : Spot → Type 0
IsBounded Between = Unit {0}
IsBounded Escaped = Unit {0}
IsBounded Opened = Unit {0}
IsBounded (Digits n v) = (n ≤ 6) × (v < 0x110000)

-- the spot is between units and the character is a quotation mark
abbrev pub closes : Spot → ℕ → Bool
closes Between c = c == 34
closes s c = false

abbrev pub quoted_end : Option Spot → ℕ → List ℕ → Option ℕ
quoted_end None k cs = None
quoted_end (Some s) k [] = None
quoted_end (Some s) k (c ∷ cs) = if closes s c then Some (k + 1) else quoted_end (spot_after s c) (k + 1) cs

-- the characters that a quoted string's units stand for, from inside it; each where its unit ends
abbrev pub given : Spot → ℕ → List ℕ
given Between c = if c == 92 then [] else c ∷ []
given Escaped c = if c == 117 then [] else escape_char c ∷ []
given Opened c = []
given (Digits n v) c = if c == 125 && is_scalar v then v ∷ [] else []

abbrev pub value_at : Option Spot → List ℕ → List ℕ
value_at None cs = []
value_at (Some s) [] = []
value_at (Some s) (c ∷ cs) = if closes s c then [] else given s c ++ value_at (spot_after s c) cs

-- a pattern from inside it; guarded: after a backslash
abbrev pub pattern_end : Bool → ℕ → List ℕ → Option ℕ
pattern_end guarded k [] = None
pattern_end true k (c ∷ cs) = if c == 10 then None else pattern_end false (k + 1) cs
pattern_end false k (c ∷ cs) = if c == 47 then Some (k + 1) else (if c == 10 then None else pattern_end (c == 92) (k + 1) cs)

-- the kind and the number of characters of the token at the front
abbrev pub of_kind : Kind → Option ℕ → Option (Kind × ℕ)
of_kind kind None = None
of_kind kind (Some n) = Some (kind, n)

abbrev pub slash_at : List ℕ → Option (Kind × ℕ)
slash_at cs = if begins_with 62 cs then Some (SlashEnd, 2) else of_kind Pattern (pattern_end false 1 cs)

abbrev pub angle_at : List ℕ → Kind × ℕ
angle_at cs = if begins_with 47 cs then (AngleSlash, 2) else (Angle, 1)

-- after a plain name of n characters: a colon and a second name make it a qualified one
abbrev pub local_at : ℕ → List ℕ → Kind × ℕ
local_at n [] = (Plain, n)
local_at n (c ∷ []) = (Plain, n)
local_at n (c ∷ d ∷ ds) = if c == 58 && is_plain_start d then (Qual, n + 1 + run_end is_plain_char 0 (d ∷ ds)) else (Plain, n)

abbrev pub name_at : ℕ → List ℕ → Kind × ℕ
name_at n text = local_at n (drop n text)

abbrev pub sign_at : ℕ → Option (Kind × ℕ)
sign_at c = if c == 58 then Some (Colon, 1) else (if c == 61 then Some (Equals, 1) else (if c == 91 then Some (SquareIn, 1) else (if c == 93 then Some (SquareOut, 1) else (if c == 62 then Some (AngleEnd, 1) else None))))

unfoldable pub token_at : List ℕ → Option (Kind × ℕ)
token_at [] = None
token_at (c ∷ cs) = if c == 34 then of_kind Quoted (quoted_end (Some Between) 1 cs) else (if c == 47 then slash_at cs else (if c == 60 then Some (angle_at cs) else (if is_plain_start c then Some (name_at (run_end is_plain_char 0 (c ∷ cs)) (c ∷ cs)) else sign_at c)))

-- the number of bytes of a mark at the front, and what stands after it
abbrev pub front_at : List ℕ → ℕ × List ℕ
front_at [] = (0, [])
front_at (c ∷ cs) = if c == 0xFEFF then (3, cs) else (0, c ∷ cs)
