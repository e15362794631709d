-- The tokens of a text that was written line by line.
use Rattle.std.proofs.Common.{◌≡◌, ◌⊎◌, inl, inr, ℕ, ◌+◌, ◌<◌, Bool, true, false, ◌||◌, ◌==◌, if◌then◌else◌, List, [], ◌∷◌, ◌++◌, length, append_assoc, encode_utf8_all, refl, sym, ap, ◌∙◌, subst, arith, eqb-true}
use Rattle.std.specs.Bool.{⊤}
use Rattle.std.specs.List.{list_all}
use Rattle.std.specs.Str.{all_scalars}
use Rattle.std.proofs.lemmas.Str.{encode_ascii}
use Rattle.xs_lex.specs.declared.kind.Kind.{Kind}
use Rattle.xs_lex.specs.declared.kind.Kind.TheVariants.{Plain, Qual, Quoted, Pattern, Colon, Equals, SquareIn, SquareOut, Angle, AngleSlash, AngleEnd, SlashEnd, End, Bad}
use Rattle.xs_lex.specs.Classes.{is_white, is_plain_start, is_plain_char, is_plain}
use Rattle.xs_lex.specs.Between.{IsApart, white, begins_blank}
use Rattle.xs_lex.specs.Units.{PatternUnit, bare, guarded, is_pattern_unit, spelt_pattern}
use Rattle.xs_lex.specs.Spelling.{IsQual, IsPattern, Spells}
use Rattle.xs_lex.specs.Scan.{token_at}
use Rattle.xs_lex.specs.Reading.{NoToken, Lexeme, Extent, AreTokensFrom, size_of, line_ends}
use Rattle.xs_lex.proofs.Truth.{white_ends, plain_start_in, line_end_white}
use Rattle.xs_lex.proofs.TokenLaws.{nothing_is, separated}
use Rattle.xs_regex.specs.declared.regex.Regex.{Regex}
use Rattle.xs_sheet.specs.Regular.{IsRegex}
use Rattle.xs_sheet.specs.Layout.{sign_spelling, Written, as_is, in_quotes, in_slashes, sign, spelling, spaced, lines_text}
use Rattle.xs_sheet.proofs.Escapes.{scalars-append, quoted_is, quoted_one_line, quoted_scalars}
use Rattle.xs_class.proofs.Truth.{and_true, both_true, not_true, no_other}
use Rattle.xs_class.specs.Tables.{is_name_start}
use Rattle.xs_lex.proofs.Reached.{size-append, line_ends-append}

abbrev pub kind_if : Bool → Kind
kind_if true = Plain
kind_if false = Qual

-- the kind and the text of a token as it is written
abbrev pub kind_of : Written → Kind
kind_of (as_is w) = kind_if (is_plain w)
kind_of (in_quotes text) = Quoted
kind_of (in_slashes inner) = Pattern
kind_of (sign kind) = kind

abbrev pub text_of : Written → List ℕ
text_of (as_is w) = w
text_of (in_quotes text) = text
text_of (in_slashes inner) = inner
text_of (sign kind) = []

abbrev pub IsSign : Kind → Type 0
IsSign Plain = ⊥
IsSign Qual = ⊥
IsSign Quoted = ⊥
IsSign Pattern = ⊥
IsSign End = ⊥
IsSign Bad = ⊥
IsSign Colon = ⊤
IsSign Equals = ⊤
IsSign SquareIn = ⊤
IsSign SquareOut = ⊤
IsSign Angle = ⊤
IsSign AngleSlash = ⊤
IsSign AngleEnd = ⊤
IsSign SlashEnd = ⊤

abbrev pub slashed : List ℕ → List ℕ
slashed inner = 47 ∷ (inner ++ 47 ∷ [])

-- what is written is a token
abbrev pub IsGood : Written → Type 0
IsGood (as_is w) = ((is_plain w ≡ true) ⊎ IsQual w) × (all_scalars w ≡ true)
IsGood (in_quotes text) = all_scalars text ≡ true
IsGood (in_slashes inner) = IsPattern (slashed inner) inner × ((r : Regex) × IsRegex inner r) × (all_scalars inner ≡ true)
IsGood (sign kind) = IsSign kind

abbrev pub AreGood : List Written → Type 0
AreGood [] = ⊤
AreGood (w ∷ ws) = IsGood w × AreGood ws

pub good-append : (a b : List Written) → AreGood a → AreGood b → AreGood (a ++ b)
good-append [] b x y = y
good-append (w ∷ ws) b x y = (x.0, good-append ws b x.1 y)

-- what holds of each sign holds of a kind that is one
by_sign_kind : (Q : Kind → Type 0) → Q Colon → Q Equals → Q SquareIn → Q SquareOut → Q Angle → Q AngleSlash → Q AngleEnd → Q SlashEnd → (k : Kind) → IsSign k → Q k
by_sign_kind Q c e si so a as_ ae se Colon g = c
by_sign_kind Q c e si so a as_ ae se Equals g = e
by_sign_kind Q c e si so a as_ ae se SquareIn g = si
by_sign_kind Q c e si so a as_ ae se SquareOut g = so
by_sign_kind Q c e si so a as_ ae se Angle g = a
by_sign_kind Q c e si so a as_ ae se AngleSlash g = as_
by_sign_kind Q c e si so a as_ ae se AngleEnd g = ae
by_sign_kind Q c e si so a as_ ae se SlashEnd g = se
by_sign_kind Q c e si so a as_ ae se Plain g = absurd g
by_sign_kind Q c e si so a as_ ae se Qual g = absurd g
by_sign_kind Q c e si so a as_ ae se Quoted g = absurd g
by_sign_kind Q c e si so a as_ ae se Pattern g = absurd g
by_sign_kind Q c e si so a as_ ae se End g = absurd g
by_sign_kind Q c e si so a as_ ae se Bad g = absurd g

-- its kind spells it
name_spelt : (t : Bool) (w : List ℕ) → is_plain w ≡ t → (is_plain w ≡ true) ⊎ IsQual w → Spells (kind_if t) w
name_spelt true w e g = e
name_spelt false w e (inl p) = absurd (cc)
name_spelt false w e (inr q) = q

pub spells : (w : Written) → IsGood w → Spells (kind_of w) (spelling w)
spells (as_is w) g = name_spelt (is_plain w) w refl g.0
spells (in_quotes text) g = (text, quoted_is text)
spells (in_slashes inner) g = (inner, g.0)
spells (sign k) g = by_sign_kind (λ k. Spells k (sign_spelling k)) refl refl refl refl refl refl refl refl k g

-- it begins with no space and no comment
hash_out : is_plain_start 35 ≡ false
unfolding is_plain_start is_name_start
hash_out = refl

start_out : (c : ℕ) → is_plain_start c ≡ true → (is_white c || c == 35) ≡ false
start_out c is = by (is_white c) refl
  where
    by : (t : Bool) → is_white c ≡ t → (t || c == 35) ≡ false
    by true e = let out = (white_ends c e).0 in let in_ = plain_start_in c is in absurd (cc)
    by false e = no_other is_plain_start c 35 is hash_out

plain_begins : (w rest : List ℕ) → is_plain w ≡ true → begins_blank (w ++ rest) ≡ false
plain_begins [] rest is = absurd (cc)
plain_begins (c ∷ cs) rest is = start_out c (and_true (is_plain_start c) (list_all is_plain_char cs) is).0

qual_begins : (w rest prefix local : List ℕ) → w ≡ prefix ++ 58 ∷ local → is_plain prefix ≡ true → begins_blank (w ++ rest) ≡ false
qual_begins w rest prefix local is plain = ap (λ (z : List ℕ). begins_blank z) (ap (λ (z : List ℕ). z ++ rest) is ∙ append_assoc prefix (58 ∷ local) rest) ∙ plain_begins prefix ((58 ∷ local) ++ rest) plain

pub begins : (w : Written) (rest : List ℕ) → IsGood w → begins_blank (spelling w ++ rest) ≡ false
unfolding is_white
begins (as_is w) rest g = by g.0
  where
    by : (is_plain w ≡ true) ⊎ IsQual w → begins_blank (w ++ rest) ≡ false
    by (inl p) = plain_begins w rest p
    by (inr q) = qual_begins w rest q.prefix q.local q.is q.plain_prefix
begins (in_quotes text) rest g = refl
begins (in_slashes inner) rest g = refl
begins (sign k) rest g = by_sign_kind (λ k. begins_blank (sign_spelling k ++ rest) ≡ false) refl refl refl refl refl refl refl refl k g

-- it has no LF
end_out : is_plain_char 10 ≡ false
end_out = (white_ends 10 line_end_white).0

chars_one_line : (w : List ℕ) → list_all is_plain_char w ≡ true → line_ends w ≡ 0
chars_one_line [] is = refl
chars_one_line (c ∷ cs) is =
    let p = and_true (is_plain_char c) (list_all is_plain_char cs) is in
    rw (no_other is_plain_char c 10 p.0 end_out) (chars_one_line cs p.1)

plain_one_line : (w : List ℕ) → is_plain w ≡ true → line_ends w ≡ 0
plain_one_line [] is = refl
plain_one_line (c ∷ cs) is =
    let p = and_true (is_plain_start c) (list_all is_plain_char cs) is in
    chars_one_line (c ∷ cs) (both_true (is_plain_char c) (list_all is_plain_char cs) (plain_start_in c p.0) p.1)

qual_one_line : (w prefix local : List ℕ) → w ≡ prefix ++ 58 ∷ local → is_plain prefix ≡ true → is_plain local ≡ true → line_ends w ≡ 0
qual_one_line w prefix local is p q = ap (λ (z : List ℕ). line_ends z) is ∙ line_ends-append prefix (58 ∷ local) ∙ omega (arith, plain_one_line prefix p, plain_one_line local q)

no_end : (t u : Bool) → (t || u) ≡ false → u ≡ false
no_end true u h = absurd (cc)
no_end false u h = h

units_one_line : (us : List PatternUnit) (rest : List ℕ) → list_all is_pattern_unit us ≡ true → line_ends (spelt_pattern us rest) ≡ line_ends rest
units_one_line [] rest each = refl
units_one_line (bare c ∷ us) rest each =
    let p = and_true (is_pattern_unit (bare c)) (list_all is_pattern_unit us) each in
    let out = no_end (c == 92) (c == 10) (no_end (c == 47) (c == 92 || c == 10) (not_true (c == 47 || (c == 92 || c == 10)) p.0)) in
    rw out (units_one_line us rest p.1)
units_one_line (guarded c ∷ us) rest each =
    let p = and_true (is_pattern_unit (guarded c)) (list_all is_pattern_unit us) each in
    rw (not_true (c == 10) p.0) (units_one_line us rest p.1)

pattern_one_line : (word inner : List ℕ) → IsPattern word inner → line_ends (slashed inner) ≡ 0
pattern_one_line word inner is = line_ends-append inner (47 ∷ []) ∙ ap (λ (z : List ℕ). line_ends z + 0) is.spelt ∙ ap (λ (n : ℕ). n + 0) (units_one_line is.units [] is.each)

pub one_line : (w : Written) → IsGood w → line_ends (spelling w) ≡ 0
one_line (as_is w) g = by g.0
  where
    by : (is_plain w ≡ true) ⊎ IsQual w → line_ends w ≡ 0
    by (inl p) = plain_one_line w p
    by (inr q) = qual_one_line w q.prefix q.local q.is q.plain_prefix q.plain_local
one_line (in_quotes text) g = quoted_one_line text
one_line (in_slashes inner) g = pattern_one_line (slashed inner) inner g.0
one_line (sign k) g = by_sign_kind (λ k. line_ends (sign_spelling k) ≡ 0) refl refl refl refl refl refl refl refl k g

-- its characters are characters
pub word_scalars : (w : Written) → IsGood w → all_scalars (spelling w) ≡ true
word_scalars (as_is w) g = g.1
word_scalars (in_quotes text) g = quoted_scalars text g
word_scalars (in_slashes inner) g = scalars-append inner (47 ∷ []) g.2 refl
word_scalars (sign k) g = by_sign_kind (λ k. all_scalars (sign_spelling k) ≡ true) refl refl refl refl refl refl refl refl k g

-- the places of words one after another, each after one character, from a place on a line
abbrev pub lexeme : Written → ℕ → ℕ → Lexeme
lexeme w at line = record { kind = kind_of w; word = spelling w; start = at; line = line }

abbrev pub lexemes : ℕ → ℕ → List Written → List Lexeme
lexemes at line [] = []
lexemes at line (w ∷ ws) = lexeme w (at + 1) line ∷ lexemes (at + 1 + size_of (spelling w)) line ws

-- the tokens of lines after the end of one
abbrev pub lines_lexemes : ℕ → ℕ → List (List Written) → List Lexeme
lines_lexemes at line [] = record { kind = End; word = []; start = at + 1; line = line + 1 } ∷ []
lines_lexemes at line (l ∷ ls) = lexemes at (line + 1) l ++ lines_lexemes (at + size_of (spaced l)) (line + 1) ls

-- text that begins with white space
abbrev StartsWhite : List ℕ → Type 0
StartsWhite [] = ⊥
StartsWhite (c ∷ cs) = is_white c ≡ true

-- a place where so much of the file is left
record Left (x : Extent) (at line : ℕ) (rest : List ℕ) : Type 0 where
  size : at + size_of rest ≡ x.size
  lines : line + line_ends rest ≡ x.lines

one_token : (x : Extent) (text after : List ℕ) (w : Written) (at line : ℕ) (ts : List Lexeme) → IsGood w → StartsWhite after → IsApart text (spelling w ++ after) → Left x at line (spelling w ++ after) → AreTokensFrom x after ts → AreTokensFrom x text (lexeme w at line ∷ ts)
one_token x text [] w at line ts good starts apart left are = absurd starts
one_token x text (c ∷ cs) w at line ts good starts apart left are =
    (spelling w ++ c ∷ cs, apart, record { start = left.size; line = left.lines }, inr (c ∷ cs, separated (kind_of w) (spelling w) c cs (spells w good) starts, are))

apart_white : (c : ℕ) (rest : List ℕ) → is_white c ≡ true → begins_blank rest ≡ false → IsApart (c ∷ rest) rest
apart_white c rest is ends = record { blanks = white c ∷ []; is = refl; each = rw is refl; ends = ends }

apart_none : (rest : List ℕ) → begins_blank rest ≡ false → IsApart rest rest
apart_none rest ends = record { blanks = []; is = refl; each = refl; ends = ends }

space_white : is_white 32 ≡ true
unfolding is_white
space_white = refl

white_low : (c : ℕ) → is_white c ≡ true → c < 128
unfolding is_white
white_low c is = by (c == 32) (c == 9) (c == 13) (c == 10) refl refl refl refl is
  where
    by : (t1 t2 t3 t4 : Bool) → (c == 32) ≡ t1 → (c == 9) ≡ t2 → (c == 13) ≡ t3 → (c == 10) ≡ t4 → (t1 || (t2 || (t3 || t4))) ≡ true → c < 128
    by true t2 t3 t4 e1 e2 e3 e4 h = let e = eqb-true c 32 e1 in omega arith
    by false true t3 t4 e1 e2 e3 e4 h = let e = eqb-true c 9 e2 in omega arith
    by false false true t4 e1 e2 e3 e4 h = let e = eqb-true c 13 e3 in omega arith
    by false false false true e1 e2 e3 e4 h = let e = eqb-true c 10 e4 in omega arith
    by false false false false e1 e2 e3 e4 h = absurd (cc)

size_cons : (c : ℕ) (rest : List ℕ) → c < 128 → size_of (c ∷ rest) ≡ 1 + size_of rest
size_cons c rest low = ap (λ (z : List ℕ). length (z ++ encode_utf8_all rest)) (encode_ascii c low) ∙ omega arith

-- after one character of white space, and after a word
left_sep : (x : Extent) (at line c : ℕ) (rest : List ℕ) → c < 128 → Left x at line (c ∷ rest) → Left x (at + 1) (if c == 10 then line + 1 else line) rest
left_sep x at line c rest low left = record { size = size; lines = by (c == 10) left.lines }
  where
    size : at + 1 + size_of rest ≡ x.size
    size = let one = size_cons c rest low in let all = left.size in omega arith

    by : (t : Bool) → line + (if t then line_ends rest + 1 else line_ends rest) ≡ x.lines → (if t then line + 1 else line) + line_ends rest ≡ x.lines
    by true h = omega arith
    by false h = h

left_word : (x : Extent) (at line : ℕ) (word rest : List ℕ) → line_ends word ≡ 0 → Left x at line (word ++ rest) → Left x (at + size_of word) line rest
left_word x at line word rest none left =
    let sizes = size-append word rest in
    let ends = line_ends-append word rest in
    let size = left.size in
    let lines = left.lines in
    record { size = omega arith; lines = omega arith }

starts_white : (ws : List Written) (more : List ℕ) → StartsWhite (spaced ws ++ 10 ∷ more)
starts_white [] more = line_end_white
starts_white (w ∷ ws) more = space_white

-- a word after white space, and what follows it
spaced_token : (x : Extent) (c : ℕ) (w : Written) (after : List ℕ) (at line : ℕ) (ts : List Lexeme) → is_white c ≡ true → IsGood w → StartsWhite after → Left x at line (c ∷ (spelling w ++ after)) → AreTokensFrom x after ts → AreTokensFrom x (c ∷ (spelling w ++ after)) (lexeme w (at + 1) (if c == 10 then line + 1 else line) ∷ ts)
spaced_token x c w after at line ts sep good starts left are =
    one_token x (c ∷ (spelling w ++ after)) after w (at + 1) (if c == 10 then line + 1 else line) ts good starts (apart_white c (spelling w ++ after) sep (begins w after good)) (left_sep x at line c (spelling w ++ after) (white_low c sep) left) are

-- the words of a line after its first
words_lexed : (x : Extent) (ws : List Written) (more : List ℕ) (at line : ℕ) (ts : List Lexeme) → AreGood ws → Left x at line (spaced ws ++ 10 ∷ more) → (Left x (at + size_of (spaced ws)) line (10 ∷ more) → AreTokensFrom x (10 ∷ more) ts) → AreTokensFrom x (spaced ws ++ 10 ∷ more) (lexemes at line ws ++ ts)
words_lexed x [] more at line ts good left are = are (subst (λ (n : ℕ). Left x n line (10 ∷ more)) (omega arith) left)
words_lexed x (w ∷ ws) more at line ts good left are =
    let after = spaced ws ++ 10 ∷ more in
    let grouped : (spelling w ++ spaced ws) ++ 10 ∷ more ≡ spelling w ++ after = append_assoc (spelling w) (spaced ws) (10 ∷ more) in
    let here : Left x at line (32 ∷ (spelling w ++ after)) = subst (λ (z : List ℕ). Left x at line (32 ∷ z)) grouped left in
    let next : Left x (at + 1 + size_of (spelling w)) line after = left_word x (at + 1) line (spelling w) after (one_line w good.0) (left_sep x at line 32 (spelling w ++ after) (omega arith) here) in
    let width : at + 1 + size_of (spelling w) + size_of (spaced ws) ≡ at + size_of (spaced (w ∷ ws)) = let a = size_cons 32 (spelling w ++ spaced ws) (omega arith) in let b = size-append (spelling w) (spaced ws) in omega arith in
    let rest = words_lexed x ws more (at + 1 + size_of (spelling w)) line ts good.1 next (λ l. are (subst (λ (n : ℕ). Left x n line (10 ∷ more)) width l)) in
    subst (λ (z : List ℕ). AreTokensFrom x (32 ∷ z) (lexemes at line (w ∷ ws) ++ ts)) (sym grouped) (spaced_token x 32 w after at line (lexemes (at + 1 + size_of (spelling w)) line ws ++ ts) space_white good.0 (starts_white ws more) here rest)

abbrev pub AreLines : List (List Written) → Type 0
AreLines [] = ⊤
AreLines ([] ∷ ls) = ⊥
AreLines ((w ∷ ws) ∷ ls) = AreGood (w ∷ ws) × AreLines ls

nothing_token : NoToken []
unfolding token_at
nothing_token = nothing_is [] refl

lines_lexed : (x : Extent) (ls : List (List Written)) (at line : ℕ) → x.whole ≡ true → AreLines ls → Left x at line (10 ∷ lines_text ls) → AreTokensFrom x (10 ∷ lines_text ls) (lines_lexemes at line ls)
lines_lexed x [] at line whole good left =
    let end = left_sep x at line 10 [] (omega arith) left in
    ([], apart_white 10 [] line_end_white refl, record { start = end.size; line = end.lines }, inl (refl, record { none = nothing_token; kind = rw whole refl; word = refl }))
lines_lexed x ([] ∷ ls) at line whole good left = absurd good
lines_lexed x ((w ∷ ws) ∷ ls) at line whole good left =
    let after = spaced ws ++ 10 ∷ lines_text ls in
    let grouped : (spelling w ++ (spaced ws ++ 10 ∷ [])) ++ lines_text ls ≡ spelling w ++ after = append_assoc (spelling w) (spaced ws ++ 10 ∷ []) (lines_text ls) ∙ ap (λ (z : List ℕ). spelling w ++ z) (append_assoc (spaced ws) (10 ∷ []) (lines_text ls)) in
    let here : Left x at line (10 ∷ (spelling w ++ after)) = subst (λ (z : List ℕ). Left x at line (10 ∷ z)) grouped left in
    let next : Left x (at + 1 + size_of (spelling w)) (line + 1) after = left_word x (at + 1) (line + 1) (spelling w) after (one_line w good.0.0) (left_sep x at line 10 (spelling w ++ after) (omega arith) here) in
    let width : at + 1 + size_of (spelling w) + size_of (spaced ws) ≡ at + size_of (spaced (w ∷ ws)) = let a = size_cons 32 (spelling w ++ spaced ws) (omega arith) in let b = size-append (spelling w) (spaced ws) in omega arith in
    let ts = lines_lexemes (at + size_of (spaced (w ∷ ws))) (line + 1) ls in
    let rest = words_lexed x ws (lines_text ls) (at + 1 + size_of (spelling w)) (line + 1) ts good.0.1 next (λ l. lines_lexed x ls (at + size_of (spaced (w ∷ ws))) (line + 1) whole good.1 (subst (λ (n : ℕ). Left x n (line + 1) (10 ∷ lines_text ls)) width l)) in
    subst (λ (z : List ℕ). AreTokensFrom x (10 ∷ z) (lines_lexemes at line ((w ∷ ws) ∷ ls))) (sym grouped) (spaced_token x 10 w after at line (lexemes (at + 1 + size_of (spelling w)) (line + 1) ws ++ ts) line_end_white good.0.0 (starts_white ws (lines_text ls)) here rest)

-- a text whose first line is one word
abbrev pub text_lexemes : Written → List (List Written) → List Lexeme
text_lexemes w ls = lexeme w 0 1 ∷ lines_lexemes (size_of (spelling w)) 1 ls

abbrev pub whole_extent : List ℕ → Extent
whole_extent text = record { size = size_of text; lines = 1 + line_ends text; whole = true }

pub text_lexed : (w : Written) (ls : List (List Written)) → IsGood w → AreLines ls → AreTokensFrom (whole_extent (lines_text ((w ∷ []) ∷ ls))) (lines_text ((w ∷ []) ∷ ls)) (text_lexemes w ls)
text_lexed w ls good lines =
    let text = lines_text ((w ∷ []) ∷ ls) in
    let x = whole_extent text in
    let after = 10 ∷ lines_text ls in
    let grouped : text ≡ spelling w ++ after = append_assoc (spelling w) (10 ∷ []) (lines_text ls) in
    let here : Left x 0 1 (spelling w ++ after) = record { size = omega (arith, ap size_of (sym grouped)); lines = ap (λ (z : List ℕ). 1 + line_ends z) (sym grouped) } in
    let next : Left x (size_of (spelling w)) 1 after = subst (λ (n : ℕ). Left x n 1 after) (omega arith) (left_word x 0 1 (spelling w) after (one_line w good) here) in
    subst (λ (z : List ℕ). AreTokensFrom x z (text_lexemes w ls)) (sym grouped) (one_token x (spelling w ++ after) after w 0 1 (lines_lexemes (size_of (spelling w)) 1 ls) good line_end_white (apart_none (spelling w ++ after) (begins w after good)) here (lines_lexed x ls (size_of (spelling w)) 1 refl lines next))

-- its characters are characters
spaced_scalars : (ws : List Written) → AreGood ws → all_scalars (spaced ws) ≡ true
spaced_scalars [] good = refl
spaced_scalars (w ∷ ws) good = scalars-append (spelling w) (spaced ws) (word_scalars w good.0) (spaced_scalars ws good.1)

pub lines_scalars : (ls : List (List Written)) → AreLines ls → all_scalars (lines_text ls) ≡ true
lines_scalars [] good = refl
lines_scalars ([] ∷ ls) good = absurd good
lines_scalars ((w ∷ ws) ∷ ls) good =
    scalars-append (spelling w ++ (spaced ws ++ 10 ∷ [])) (lines_text ls) (scalars-append (spelling w) (spaced ws ++ 10 ∷ []) (word_scalars w good.0.0) (scalars-append (spaced ws) (10 ∷ []) (spaced_scalars ws good.0.1) refl)) (lines_scalars ls good.1)
