-- How far the tokens of a file have been read.
use Rattle.std.proofs.Common.{◌≡◌, inl, inr, ℕ, suc, ◌+◌, ◌-◌, ◌<◌, ◌≤◌, List, [], ◌∷◌, ◌++◌, map, length, take, drop, length-append, append_assoc, append-nil, Some, true, false, Bool, ◌&&◌, if◌then◌else◌, ◌==◌, encode_utf8_all, slice_range, refl, sym, ap, ◌∙◌, subst, arith, eqb-true}
use Rattle.std.specs.List.{All}
use Rattle.std.specs.Str.{chars, IsUtf8, all_scalars}
use Rattle.std.specs.Str.Lossy.{utf8_valid_len}
use Rattle.std.proofs.lemmas.List.{drop_at, take_at, drop-drop, map-append, length-take-le, take-append-drop}
use Rattle.std.proofs.lemmas.List.Elements.{All-push}
use Rattle.std.proofs.lemmas.Str.{chars-nil, chars-encodes, encodes-append, encodes-chars, scalars-chars, utf8_valid_len_le, length-le-encodes}
use Rattle.xs_lex.specs.declared.kind.Kind.{Kind}
use Rattle.xs_lex.specs.declared.kind.Kind.TheVariants.{Plain, Qual, Quoted, Pattern, Colon, Equals, SquareIn, SquareOut, Angle, AngleSlash, AngleEnd, SlashEnd, End, Bad}
use Rattle.xs_lex.specs.declared.token.Token.{Token}
use Rattle.xs_lex.specs.Spelling.{Spells}
use Rattle.xs_lex.specs.Between.{IsApart}
use Rattle.xs_lex.specs.Scan.{blank_end, token_at, front_at}
use Rattle.xs_lex.specs.Reading.{IsTokenAt, NoToken, Lexeme, StandsAt, AreTokensFrom, AreTokens, IsSlice, size_of, line_ends, valid, after_mark, extent_of, lexeme_of}
use Rattle.xs_lex.proofs.BlankLaws.{after_blanks}
use Rattle.xs_lex.proofs.TokenLaws.{longest_is}
use Rattle.xs_class.proofs.Truth.{and_true, both_true}
use Rattle.xs_class.specs.Words.{is_empty}

pub size-append : (u v : List ℕ) → size_of (u ++ v) ≡ size_of u + size_of v
size-append u v = ap length (encodes-append u v) ∙ length-append (encode_utf8_all u) (encode_utf8_all v)

if_more : (t : Bool) (a b : ℕ) → (if t then a + b + 1 else a + b) ≡ (if t then a + 1 else a) + b
if_more true a b = omega arith
if_more false a b = refl

pub line_ends-append : (u v : List ℕ) → line_ends (u ++ v) ≡ line_ends u + line_ends v
line_ends-append [] v = omega arith
line_ends-append (c ∷ cs) v =
    let more = line_ends-append cs v in
    ap (λ (n : ℕ). if c == 10 then n + 1 else n) more ∙ if_more (c == 10) (line_ends cs) (line_ends v)

pub scalars_parts : (u v : List ℕ) → all_scalars (u ++ v) ≡ true → (all_scalars u ≡ true) × (all_scalars v ≡ true)
scalars_parts [] v is = (refl, is)
scalars_parts (c ∷ cs) v is =
    let p = and_true _ (all_scalars (cs ++ v)) is in
    let q = scalars_parts cs v p.1 in
    (both_true _ (all_scalars cs) p.0 q.0, q.1)

-- the tokens so far, and what is left of the file
pub record Reached (bytes : List ℕ) (list : List Token) (at line : ℕ) (rest : List ℕ) : Type 0 where
  pub left : drop at bytes ≡ encode_utf8_all rest ++ drop (utf8_valid_len bytes) bytes
  pub scalars : all_scalars rest ≡ true
  pub size : at + size_of rest ≡ utf8_valid_len bytes
  pub lines : line + line_ends rest ≡ 1 + line_ends (chars (valid bytes))
  pub slices : All (IsSlice bytes) list
  pub so_far : (ms : List Lexeme) → AreTokensFrom (extent_of bytes) rest ms → AreTokens bytes (map (lexeme_of bytes) list ++ ms)

none_yet : (bytes : List ℕ) → All (IsSlice bytes) []
none_yet bytes k d low = absurd (omega arith)

spelt_all : (bytes letters : List ℕ) → IsUtf8 (valid bytes) → letters ≡ chars (valid bytes) → encode_utf8_all letters ≡ valid bytes
spelt_all bytes letters text is = ap encode_utf8_all is ∙ encodes-chars (valid bytes) text

valid_size : (bytes letters : List ℕ) → encode_utf8_all letters ≡ valid bytes → size_of letters ≡ utf8_valid_len bytes
valid_size bytes letters spelt = ap length spelt ∙ length-take-le (utf8_valid_len bytes) bytes (utf8_valid_len_le bytes)

whole_is : (bytes letters : List ℕ) → encode_utf8_all letters ≡ valid bytes → bytes ≡ encode_utf8_all letters ++ drop (utf8_valid_len bytes) bytes
whole_is bytes letters spelt = sym (ap (λ (z : List ℕ). z ++ drop (utf8_valid_len bytes) bytes) spelt ∙ take-append-drop (utf8_valid_len bytes) bytes)

pub reached_front : (bytes letters : List ℕ) → IsUtf8 (valid bytes) → letters ≡ chars (valid bytes) → after_mark letters ≡ letters → Reached bytes [] 0 1 letters
reached_front bytes letters text is no_mark =
    let spelt = spelt_all bytes letters text is in
    let size_all = valid_size bytes letters spelt in
    record {
      left = whole_is bytes letters spelt;
      scalars = ap all_scalars is ∙ scalars-chars (valid bytes) text;
      size = omega arith;
      lines = ap (λ (z : List ℕ). 1 + line_ends z) is;
      slices = none_yet bytes;
      so_far = λ ms tokens. subst (λ (z : List ℕ). AreTokensFrom (extent_of bytes) z ms) (sym no_mark ∙ ap after_mark is) tokens;
    }

mark_size : (others : List ℕ) → size_of (0xFEFF ∷ others) ≡ 3 + size_of others
unfolding lib.Utf8.encode
mark_size others = omega arith

mark_left : (others bad : List ℕ) → drop 3 (encode_utf8_all (0xFEFF ∷ others) ++ bad) ≡ encode_utf8_all others ++ bad
unfolding lib.Utf8.encode
mark_left others bad = refl

pub reached_mark : (bytes letters others : List ℕ) → IsUtf8 (valid bytes) → letters ≡ chars (valid bytes) → letters ≡ 0xFEFF ∷ others → Reached bytes [] 3 1 others
reached_mark bytes letters others text is mark =
    let spelt = spelt_all bytes letters text is in
    let size_all = valid_size bytes letters spelt in
    let scalars_all : all_scalars (0xFEFF ∷ others) ≡ true = ap all_scalars (sym mark ∙ is) ∙ scalars-chars (valid bytes) text in
    let split : bytes ≡ encode_utf8_all (0xFEFF ∷ others) ++ drop (utf8_valid_len bytes) bytes = whole_is bytes letters spelt ∙ ap (λ (z : List ℕ). encode_utf8_all z ++ drop (utf8_valid_len bytes) bytes) mark in
    let sizes : size_of letters ≡ 3 + size_of others = ap size_of mark ∙ mark_size others in
    record {
      left = ap (λ (z : List ℕ). drop 3 z) split ∙ mark_left others (drop (utf8_valid_len bytes) bytes);
      scalars = scalars_all;
      size = omega arith;
      lines = ap (λ (z : List ℕ). 1 + line_ends z) (sym mark ∙ is);
      slices = none_yet bytes;
      so_far = λ ms tokens. subst (λ (z : List ℕ). AreTokensFrom (extent_of bytes) (after_mark z) ms) (sym mark ∙ is) tokens;
    }

pub reached_start : (bytes letters : List ℕ) → IsUtf8 (valid bytes) → letters ≡ chars (valid bytes) → Reached bytes [] (front_at letters).0 1 (front_at letters).1
reached_start bytes [] text is = reached_front bytes [] text is refl
reached_start bytes (c ∷ cs) text is = by (c == 0xFEFF) refl
  where
    by : (t : Bool) → (c == 0xFEFF) ≡ t → Reached bytes [] (if◌then◌else◌ {A = ℕ × List ℕ} t (3, cs) (0, c ∷ cs)).0 1 (if◌then◌else◌ {A = ℕ × List ℕ} t (3, cs) (0, c ∷ cs)).1
    by true e = reached_mark bytes (c ∷ cs) cs text is (ap (λ (z : ℕ). z ∷ cs) (eqb-true c 0xFEFF e))
    by false e = reached_front bytes (c ∷ cs) text is (rw e refl)

-- a slice of the bytes
pub left_more : (bytes u v bad : List ℕ) (at : ℕ) → drop at bytes ≡ encode_utf8_all (u ++ v) ++ bad → drop (at + size_of u) bytes ≡ encode_utf8_all v ++ bad
left_more bytes u v bad at left =
    sym (drop-drop (size_of u) at bytes) ∙ ap (λ (z : List ℕ). drop (size_of u) z) (left ∙ ap (λ (z : List ℕ). z ++ bad) (encodes-append u v) ∙ append_assoc (encode_utf8_all u) (encode_utf8_all v) bad) ∙ drop_at (encode_utf8_all u) (encode_utf8_all v ++ bad) (size_of u) refl

pub slice_is : (bytes u v bad : List ℕ) (at : ℕ) → drop at bytes ≡ encode_utf8_all (u ++ v) ++ bad → slice_range bytes at (at + size_of u) ≡ encode_utf8_all u
slice_is bytes u v bad at left =
    let n : at + size_of u - at ≡ size_of u = omega arith in
    ap (λ (k : ℕ). take k (drop at bytes)) n ∙ ap (λ (z : List ℕ). take (size_of u) z) (left ∙ ap (λ (z : List ℕ). z ++ bad) (encodes-append u v) ∙ append_assoc (encode_utf8_all u) (encode_utf8_all v) bad) ∙ take_at (encode_utf8_all u) (encode_utf8_all v ++ bad) (size_of u) refl

-- a place between tokens skipped
pub reached_text : (bytes : List ℕ) (list : List Token) (at line : ℕ) (rest gap text : List ℕ) → Reached bytes list at line rest → rest ≡ gap ++ text → IsApart rest text → (t : Token) → t.start ≡ at + size_of gap → t.line ≡ line + line_ends gap → StandsAt (extent_of bytes) (lexeme_of bytes t) text
reached_text bytes list at line rest gap text r split apart t start here =
    let sizes : size_of rest ≡ size_of gap + size_of text = ap size_of split ∙ size-append gap text in
    let ends : line_ends rest ≡ line_ends gap + line_ends text = ap line_ends split ∙ line_ends-append gap text in
    let total = r.size in
    let all_lines = r.lines in
    record { start = omega arith; line = omega arith }

pushed : (bytes : List ℕ) (list : List Token) (t : Token) (ms : List Lexeme) → AreTokens bytes (map (lexeme_of bytes) list ++ lexeme_of bytes t ∷ ms) → AreTokens bytes (map (lexeme_of bytes) (list ++ t ∷ []) ++ ms)
pushed bytes list t ms is =
    let e : map (lexeme_of bytes) (list ++ t ∷ []) ++ ms ≡ map (lexeme_of bytes) list ++ lexeme_of bytes t ∷ ms = ap (λ (z : List Lexeme). z ++ ms) (map-append (lexeme_of bytes) list (t ∷ [])) ∙ append_assoc (map (lexeme_of bytes) list) (lexeme_of bytes t ∷ []) ms in
    subst (λ (z : List Lexeme). AreTokens bytes z) (sym e) is

pub record IsToken (bytes : List ℕ) (at line : ℕ) (gap : List ℕ) (kind : Kind) (word : List ℕ) (t : Token) : Type 0 where
  pub kind_is : t.kind ≡ kind
  pub start_is : t.start ≡ at + size_of gap
  pub end_is : t.end ≡ at + size_of gap + size_of word
  pub line_is : t.line ≡ line + line_ends gap

pub reached_token : (bytes : List ℕ) (list : List Token) (at line : ℕ) (rest gap text word after : List ℕ) (kind : Kind) (t : Token) → Reached bytes list at line rest → rest ≡ gap ++ text → IsApart rest text → text ≡ word ++ after → IsTokenAt text kind word after → IsToken bytes at line gap kind word t → Reached bytes (list ++ t ∷ []) (at + size_of gap + size_of word) (line + line_ends gap + line_ends word) after
reached_token bytes list at line rest gap text word after kind t r split apart cut token is =
    let bad : List ℕ = drop (utf8_valid_len bytes) bytes in
    let left_gap : drop (at + size_of gap) bytes ≡ encode_utf8_all text ++ bad = left_more bytes gap text bad at (r.left ∙ ap (λ (z : List ℕ). encode_utf8_all z ++ bad) split) in
    let left_word : drop (at + size_of gap) bytes ≡ encode_utf8_all (word ++ after) ++ bad = left_gap ∙ ap (λ (z : List ℕ). encode_utf8_all z ++ bad) cut in
    let slice : slice_range bytes (at + size_of gap) (at + size_of gap + size_of word) ≡ encode_utf8_all word = slice_is bytes word after bad (at + size_of gap) left_word in
    let slice_t : slice_range bytes t.start t.end ≡ encode_utf8_all word = rw (is.start_is, is.end_is) slice in
    let p = scalars_parts gap text (ap all_scalars (sym split) ∙ r.scalars) in
    let q = scalars_parts word after (ap all_scalars (sym cut) ∙ p.1) in
    let word_is : chars (slice_range bytes t.start t.end) ≡ word = ap chars slice_t ∙ chars-encodes word q.0 in
    let sizes : size_of rest ≡ size_of gap + size_of text = ap size_of split ∙ size-append gap text in
    let sizes_word : size_of text ≡ size_of word + size_of after = ap size_of cut ∙ size-append word after in
    let ends : line_ends rest ≡ line_ends gap + line_ends text = ap line_ends split ∙ line_ends-append gap text in
    let ends_word : line_ends text ≡ line_ends word + line_ends after = ap line_ends cut ∙ line_ends-append word after in
    let total = r.size in
    let all_lines = r.lines in
    let short = utf8_valid_len_le bytes in
    let e1 = is.start_is in
    let e2 = is.end_is in
    let stands = reached_text bytes list at line rest gap text r split apart t is.start_is is.line_is in
    let token_t : IsTokenAt text t.kind (chars (slice_range bytes t.start t.end)) after = subst (λ (k : Kind). IsTokenAt text k (chars (slice_range bytes t.start t.end)) after) (sym is.kind_is) (subst (λ (z : List ℕ). IsTokenAt text kind z after) (sym word_is) token) in
    record {
      left = left_more bytes word after bad (at + size_of gap) left_word;
      scalars = q.1;
      size = omega arith;
      lines = omega arith;
      slices = All-push (IsSlice bytes) list t r.slices (record { ordered = omega arith; within = omega arith; text = (word, (q.0, sym slice_t)) });
      so_far = λ ms tokens. pushed bytes list t ms (r.so_far (lexeme_of bytes t ∷ ms) (text, apart, stands, inr (after, token_t, tokens)));
    }

-- the last token
pub reached_last : (bytes : List ℕ) (list : List Token) (at line : ℕ) (rest gap text : List ℕ) (t : Token) → Reached bytes list at line rest → rest ≡ gap ++ text → IsApart rest text → NoToken text → IsToken bytes at line gap (if (utf8_valid_len bytes == length bytes) && is_empty text then End else Bad) [] t → AreTokens bytes (map (lexeme_of bytes) (list ++ t ∷ [])) × All (IsSlice bytes) (list ++ t ∷ [])
reached_last bytes list at line rest gap text t r split apart none is =
    let bad : List ℕ = drop (utf8_valid_len bytes) bytes in
    let left_gap : drop (at + size_of gap) bytes ≡ encode_utf8_all text ++ bad = left_more bytes gap text bad at (r.left ∙ ap (λ (z : List ℕ). encode_utf8_all z ++ bad) split) in
    let slice : slice_range bytes (at + size_of gap) (at + size_of gap + size_of []) ≡ [] = slice_is bytes [] text bad (at + size_of gap) left_gap in
    let slice_t : slice_range bytes t.start t.end ≡ [] = rw (is.start_is, is.end_is) slice in
    let word_is : chars (slice_range bytes t.start t.end) ≡ [] = ap chars slice_t ∙ chars-nil in
    let sizes : size_of rest ≡ size_of gap + size_of text = ap size_of split ∙ size-append gap text in
    let total = r.size in
    let short = utf8_valid_len_le bytes in
    let e1 = is.start_is in
    let e2 = is.end_is in
    let stands = reached_text bytes list at line rest gap text r split apart t is.start_is is.line_is in
    let all_so_far = pushed bytes list t [] (r.so_far (lexeme_of bytes t ∷ []) (text, apart, stands, inl (refl, record { none = none; kind = is.kind_is; word = word_is }))) in
    let no_more : map (lexeme_of bytes) (list ++ t ∷ []) ++ [] ≡ map (lexeme_of bytes) (list ++ t ∷ []) = append-nil (map (lexeme_of bytes) (list ++ t ∷ [])) in
    (subst (λ (z : List Lexeme). AreTokens bytes z) no_more all_so_far, All-push (IsSlice bytes) list t r.slices (record { ordered = omega arith; within = omega arith; text = ([], (refl, sym slice_t)) }))

ends_few : (text : List ℕ) → line_ends text ≤ length text
ends_few [] = omega arith
ends_few (c ∷ cs) = by (c == 10) (ends_few cs)
  where
    by : (t : Bool) → line_ends cs ≤ length cs → (if t then line_ends cs + 1 else line_ends cs) ≤ suc (length cs)
    by true le = omega arith
    by false le = omega arith

-- the places so far are those of a small file
pub record IsSmall (at line : ℕ) : Type 0 where
  pub bytes : at ≤ 65536
  pub lines : line ≤ 65537

pub small_gap : (bytes : List ℕ) (list : List Token) (at line : ℕ) (rest gap text : List ℕ) → length bytes ≤ 65536 → IsUtf8 (valid bytes) → Reached bytes list at line rest → rest ≡ gap ++ text → IsSmall (at + size_of gap) (line + line_ends gap)
small_gap bytes list at line rest gap text few utf8 r split =
    let sizes : size_of rest ≡ size_of gap + size_of text = ap size_of split ∙ size-append gap text in
    let ends : line_ends rest ≡ line_ends gap + line_ends text = ap line_ends split ∙ line_ends-append gap text in
    let total = r.size in
    let all_lines = r.lines in
    let short = utf8_valid_len_le bytes in
    let few_ends = ends_few (chars (valid bytes)) in
    let few_letters = length-le-encodes (chars (valid bytes)) in
    let spelt = valid_size bytes (chars (valid bytes)) (encodes-chars (valid bytes) utf8) in
    record { bytes = omega arith; lines = omega arith }

pub small_word : (bytes : List ℕ) (list : List Token) (at line : ℕ) (rest gap text word after : List ℕ) → length bytes ≤ 65536 → IsUtf8 (valid bytes) → Reached bytes list at line rest → rest ≡ gap ++ text → text ≡ word ++ after → IsSmall (at + size_of gap + size_of word) (line + line_ends gap + line_ends word)
small_word bytes list at line rest gap text word after few utf8 r split cut =
    let whole : rest ≡ (gap ++ word) ++ after = split ∙ ap (λ (z : List ℕ). gap ++ z) cut ∙ sym (append_assoc gap word after) in
    let s = small_gap bytes list at line rest (gap ++ word) after few utf8 r whole in
    let a = s.bytes in
    let b = s.lines in
    let sizes = size-append gap word in
    let ends = line_ends-append gap word in
    record { bytes = omega arith; lines = omega arith }

quoted_some : (w x : List ℕ) (c : ℕ) → w ≡ c ∷ x → 1 ≤ length w
quoted_some w x c is = let e : length w ≡ suc (length x) = ap length is in omega arith

-- no token is empty
pub word_some : (kind : Kind) (word : List ℕ) → Spells kind word → 1 ≤ length word
word_some Plain [] s = absurd (cc)
word_some Plain (c ∷ cs) s = omega arith
word_some Qual word s = let e : length word ≡ length (s.prefix ++ 58 ∷ s.local) = ap length s.is in omega (arith, length-append s.prefix (58 ∷ s.local))
word_some Quoted word s = quoted_some word _ 34 s.1.is
word_some Pattern word s = quoted_some word _ 47 s.1.is
word_some Colon word s = quoted_some word _ 58 s
word_some Equals word s = quoted_some word _ 61 s
word_some SquareIn word s = quoted_some word _ 91 s
word_some SquareOut word s = quoted_some word _ 93 s
word_some Angle word s = quoted_some word _ 60 s
word_some AngleSlash word s = quoted_some word _ 60 s
word_some AngleEnd word s = quoted_some word _ 62 s
word_some SlashEnd word s = quoted_some word _ 47 s
word_some End word s = absurd s
word_some Bad word s = absurd s

pub shorter : (rest gap text word after : List ℕ) (kind : Kind) → rest ≡ gap ++ text → IsTokenAt text kind word after → length after < length rest
shorter rest gap text word after kind split t =
    let a : length rest ≡ length (gap ++ text) = ap length split in
    let b : length text ≡ length (word ++ after) = ap length t.begins.is in
    let some = word_some kind word t.begins.spells in
    omega (arith, length-append gap text, length-append word after)

-- what the reader's number of blanks cuts off
pub blanks_cut : (text front back : List ℕ) (n : ℕ) → n ≡ blank_end false 0 text → front ≡ take n text → back ≡ drop n text → (text ≡ front ++ back) × IsApart text back
blanks_cut text front back n is f b =
    let r = after_blanks text in
    let e = r.1 in
    let same : back ≡ r.0 = b ∙ ap (λ (z : List ℕ). drop n z) e.is ∙ drop_at e.front r.0 n (e.count ∙ sym is) in
    (sym (ap (λ (z : List ℕ). z ++ back) f ∙ ap (λ (z : List ℕ). take n text ++ z) b ∙ take-append-drop n text), subst (λ (z : List ℕ). IsApart text z) (sym same) e.apart)

-- what the reader's number of characters cuts off
pub token_cut : (text word after : List ℕ) (kind : Kind) (n : ℕ) → token_at text ≡ Some (kind, n) → word ≡ take n text → after ≡ drop n text → IsTokenAt text kind word after
token_cut text word after kind n is w b =
    let l = longest_is text (kind, n) is in
    let whole = l.2.begins.is in
    let same_word : word ≡ l.0 = w ∙ ap (λ (z : List ℕ). take n z) whole ∙ take_at l.0 l.1 n l.3 in
    let same_rest : after ≡ l.1 = b ∙ ap (λ (z : List ℕ). drop n z) whole ∙ drop_at l.0 l.1 n l.3 in
    subst (λ (z : List ℕ). IsTokenAt text kind word z) (sym same_rest) (subst (λ (z : List ℕ). IsTokenAt text kind z l.1) (sym same_word) l.2)

pub token_within : (text : List ℕ) (kind : Kind) (n : ℕ) → token_at text ≡ Some (kind, n) → n ≤ length text
token_within text kind n is =
    let l = longest_is text (kind, n) is in
    let e : length text ≡ length (l.0 ++ l.1) = ap length l.2.begins.is in
    let size = l.3 in
    omega (arith, length-append l.0 l.1)

-- the same, at values that equal these
pub reached_same : (bytes : List ℕ) (list more : List Token) (at a line l : ℕ) (rest r : List ℕ) → Reached bytes list at line rest → more ≡ list → a ≡ at → l ≡ line → r ≡ rest → Reached bytes more a l r
reached_same bytes list more at a line l rest r reached e f g h =
    subst (λ (z : List ℕ). Reached bytes more a l z) (sym h) (subst (λ (z : ℕ). Reached bytes more a z rest) (sym g) (subst (λ (z : ℕ). Reached bytes more z line rest) (sym f) (subst (λ (z : List Token). Reached bytes z at line rest) (sym e) reached)))

front_parts : (p q : ℕ × List ℕ) → p ≡ q → (p.0 ≡ q.0) × (p.1 ≡ q.1)
front_parts p q e = (ap (λ (z : ℕ × List ℕ). z.0) e, ap (λ (z : ℕ × List ℕ). z.1) e)

pub reached_at : (bytes letters rest : List ℕ) (list : List Token) (at line : ℕ) → IsUtf8 (valid bytes) → letters ≡ chars (valid bytes) → list ≡ [] → ◌≡◌ {A = ℕ × List ℕ} (at, rest) (front_at letters) → line ≡ 1 → Reached bytes list at line rest
reached_at bytes letters rest list at line text is none front one =
    let p = front_parts (at, rest) (front_at letters) front in
    reached_same bytes [] list (front_at letters).0 at 1 line (front_at letters).1 rest (reached_start bytes letters text is) none p.0 one p.1

pub whole_test : (bytes text : List ℕ) → text ≡ valid bytes → (length text == length bytes) ≡ (utf8_valid_len bytes == length bytes)
whole_test bytes text is = ap (λ (n : ℕ). n == length bytes) (ap length is ∙ length-take-le (utf8_valid_len bytes) bytes (utf8_valid_len_le bytes))
