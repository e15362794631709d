-- Characters and their UTF-8.
use Rattle.std.proofs.Common.{◌≡◌, ◌<◌, ◌≤◌, ◌+◌, ◌/◌, ◌%◌, ◌==◌, ◌&&◌, ◌++◌, ℕ, suc, zero, List, [], ◌∷◌, length, take, drop, get_or, Bool, true, false, refl, sym, ◌∙◌, ap, subst, arith, encode_utf8_all, append_assoc, append-nil}
use Rattle.std.specs.Char.{IsScalar, encode_utf8}
use Rattle.std.proofs.lemmas.List.{take_more, at_drop_more, at_drop_all}
use Rattle.std.specs.Str.{chars, IsUtf8, all_scalars, IsValidUpTo}
use Rattle.std.specs.Str.Pattern.{FindsCharPrefix, StripsPrefix}
use Rattle.std.proofs.lemmas.Str.{chars-encodes, encodes_same, encodes-append, chars_past_char, length-encode, len_utf8_bounds}
use lib.Utf8.{scalar}
use Rattle.std.proofs.lemmas.Bool.Decides.{nat_tests}
use Rattle.xs_chars.specs.Text.{AreCharacters, byte_order_mark, without_mark, with_mark, IsUtf8BadAt}
use Rattle.xs_chars.specs.Laws.{IsReadBack}

-- each character is a scalar value
pub scalar_at : (w : List ℕ) (i d : ℕ) → AreCharacters w → i < length w → IsScalar (get_or w i d)
scalar_at [] i d are lt = absurd (omega arith)
scalar_at (c ∷ w) zero d are lt = grind (arith, nat_tests)
scalar_at (c ∷ w) (suc i) d are lt = scalar_at w i d (grind (arith, nat_tests)) (omega arith)

-- the characters of UTF-8 are characters
pub utf8_characters : (bytes : List ℕ) → IsUtf8 bytes → AreCharacters (chars bytes)
utf8_characters bytes (cs, (scalars, is)) = subst (λ (l : List ℕ). all_scalars l ≡ true) (sym (ap chars (sym is) ∙ chars-encodes cs scalars)) scalars

-- UTF-8 that spells characters has just these
pub chars_are : (bytes w : List ℕ) → IsUtf8 bytes → bytes ≡ encode_utf8_all w → chars bytes ≡ w
chars_are bytes w (cs, (scalars, is)) spelt = ap chars (sym is) ∙ chars-encodes cs scalars ∙ encodes_same cs w (is ∙ spelt)

-- what std says of the longest prefix
pub bad_at : (bytes : List ℕ) (at : ℕ) → (IsUtf8 bytes → ⊥) → IsValidUpTo bytes at → IsUtf8BadAt bytes at
bad_at bytes at bad valid = record {
  bad = bad;
  within = omega (arith, valid.short);
  front = valid.front;
  longest = λ n le utf8. not_more n (λ lt. valid.longest n lt utf8);
}
  where
    not_more : (n : ℕ) → (at < n → ⊥) → n ≤ at
    not_more n not = grind arith

-- one mark more, and one mark dropped
pub unmarked : (w : List ℕ) → without_mark (with_mark w) ≡ w
unmarked [] = refl
unmarked (c ∷ w) = split (c == byte_order_mark) refl
  where
    split : (t : Bool) → (c == byte_order_mark) ≡ t → without_mark (with_mark (c ∷ w)) ≡ c ∷ w
    split true is = grind (arith, nat_tests)
    split false is = grind (arith, nat_tests)

marked_characters : (w : List ℕ) → AreCharacters w → AreCharacters (with_mark w)
marked_characters [] are = are
marked_characters (c ∷ w) are = split (c == byte_order_mark) refl
  where
    split : (t : Bool) → (c == byte_order_mark) ≡ t → AreCharacters (with_mark (c ∷ w))
    split true is = grind (arith, nat_tests)
    split false is = grind (arith, nat_tests)

pub read_back : IsReadBack
read_back w are =
    let marked = marked_characters w are in
    ((with_mark w, (marked, refl)), ap without_mark (chars-encodes (with_mark w) marked) ∙ unmarked w)

-- a text that begins with the mark, and one that does not
pub begins_marked : (bytes rest : List ℕ) → IsUtf8 bytes → StripsPrefix (FindsCharPrefix byte_order_mark) bytes rest → chars rest ≡ without_mark (chars bytes)
begins_marked bytes rest utf8 (n, found, is, long) =
    ap chars is ∙ sym (ap without_mark (chars_past_char bytes (drop n bytes) byte_order_mark utf8 found.split))

pub begins_unmarked : (bytes : List ℕ) → IsUtf8 bytes → ((rest : List ℕ) → bytes ≡ encode_utf8 byte_order_mark ++ rest → ⊥) → chars bytes ≡ without_mark (chars bytes)
begins_unmarked bytes ([], (scalars, is)) not =
    let none : chars bytes ≡ [] = ap chars (sym is) ∙ chars-encodes [] scalars in
    none ∙ sym (ap without_mark none)
begins_unmarked bytes (c ∷ cs, (scalars, is)) not =
    let are : chars bytes ≡ c ∷ cs = ap chars (sym is) ∙ chars-encodes (c ∷ cs) scalars in
    are ∙ split (c == byte_order_mark) refl ∙ sym (ap without_mark are)
  where
    split : (t : Bool) → (c == byte_order_mark) ≡ t → c ∷ cs ≡ without_mark (c ∷ cs)
    split true mark =
        let same : c ≡ byte_order_mark = grind (arith, nat_tests) in
        absurd (not (encode_utf8_all cs) (sym is ∙ ap (λ d. encode_utf8 d ++ encode_utf8_all cs) same))
    split false mark = grind (arith, nat_tests)

-- the bytes of a character, whose number is n
pub two_bytes : (n c x : ℕ) → 128 ≤ n → n < 2048 → n ≡ c → x ≡ 128 + n % 64 → (192 + n / 64) ∷ x ∷ [] ≡ encode_utf8 c
unfolding encode_utf8
two_bytes n c x le lt same e = ap (λ z. (192 + n / 64) ∷ z ∷ []) e ∙ sym (spelt n le lt) ∙ ap encode_utf8 same
  where
    spelt : (n : ℕ) → 128 ≤ n → n < 2048 → encode_utf8 n ≡ (192 + n / 64) ∷ (128 + n % 64) ∷ []
    spelt n le lt = grind (arith, nat_tests)

pub three_bytes : (n c x y : ℕ) → 2048 ≤ n → n < 65536 → n ≡ c → x ≡ 128 + n / 64 % 64 → y ≡ 128 + n % 64 → (224 + n / 4096) ∷ x ∷ y ∷ [] ≡ encode_utf8 c
unfolding encode_utf8
three_bytes n c x y le lt same e f =
    ap (λ z. (224 + n / 4096) ∷ z ∷ y ∷ []) e ∙ ap (λ z. (224 + n / 4096) ∷ (128 + n / 64 % 64) ∷ z ∷ []) f ∙ sym (spelt n le lt) ∙ ap encode_utf8 same
  where
    spelt : (n : ℕ) → 2048 ≤ n → n < 65536 → encode_utf8 n ≡ (224 + n / 4096) ∷ (128 + n / 64 % 64) ∷ (128 + n % 64) ∷ []
    spelt n le lt = grind (arith, nat_tests)

pub four_bytes : (n c x y z : ℕ) → 65536 ≤ n → n ≡ c → x ≡ 128 + n / 4096 % 64 → y ≡ 128 + n / 64 % 64 → z ≡ 128 + n % 64 → (240 + n / 262144) ∷ x ∷ y ∷ z ∷ [] ≡ encode_utf8 c
unfolding encode_utf8
four_bytes n c x y z le same e f g =
    ap (λ b. (240 + n / 262144) ∷ b ∷ y ∷ z ∷ []) e ∙ ap (λ b. (240 + n / 262144) ∷ (128 + n / 4096 % 64) ∷ b ∷ z ∷ []) f
    ∙ ap (λ b. (240 + n / 262144) ∷ (128 + n / 4096 % 64) ∷ (128 + n / 64 % 64) ∷ b ∷ []) g ∙ sym (spelt n le) ∙ ap encode_utf8 same
  where
    spelt : (n : ℕ) → 65536 ≤ n → encode_utf8 n ≡ (240 + n / 262144) ∷ (128 + n / 4096 % 64) ∷ (128 + n / 64 % 64) ∷ (128 + n % 64) ∷ []
    spelt n le = grind (arith, nat_tests)

-- one character more
pub encodes_more : (w before : List ℕ) (i c : ℕ) → i < length w → c ≡ get_or w i c → before ++ encode_utf8_all (take i w) ++ encode_utf8 c ≡ before ++ encode_utf8_all (take (i + 1) w)
encodes_more w before i c lt is =
    append_assoc before (encode_utf8_all (take i w)) (encode_utf8 c) ∙ ap (λ l. before ++ l) (ap (λ l. encode_utf8_all (take i w) ++ l) (sym (append-nil (encode_utf8 c))) ∙ sym (encodes-append (take i w) (c ∷ [])) ∙ ap encode_utf8_all (ap (λ x. take i w ++ x ∷ []) is ∙ sym (take_more w i c lt)))

-- a character takes at most four bytes
pub four_at_most : (c : ℕ) → length (encode_utf8 c) ≤ 4
four_at_most c = let long = length-encode c in let most = (len_utf8_bounds c).1 in omega (arith, long, most)

-- whether the rest of a word are characters, one symbol on
scalars_next : (w : List ℕ) (i c : ℕ) → i < length w → c ≡ get_or w i c → all_scalars (drop i w) ≡ (scalar c && all_scalars (drop (i + 1) w))
scalars_next w i c lt is = at_drop_more all_scalars w i c lt ∙ ap (λ x. scalar x && all_scalars (drop (i + 1) w)) (sym is)

pub scalars_more : (w : List ℕ) (i c : ℕ) → i < length w → c ≡ get_or w i c → IsScalar c → all_scalars w ≡ all_scalars (drop i w) → all_scalars w ≡ all_scalars (drop (i + 1) w)
scalars_more w i c lt is scalar_is so_far = so_far ∙ scalars_next w i c lt is ∙ ap (λ b. b && all_scalars (drop (i + 1) w)) scalar_is

pub no_scalars : (w : List ℕ) (i c : ℕ) → i < length w → c ≡ get_or w i c → (IsScalar c → ⊥) → all_scalars w ≡ all_scalars (drop i w) → false ≡ all_scalars w
no_scalars w i c lt is not so_far = sym (so_far ∙ scalars_next w i c lt is ∙ split (scalar c) refl)
  where
    split : (t : Bool) → scalar c ≡ t → (scalar c && all_scalars (drop (i + 1) w)) ≡ false
    split true e = absurd (not e)
    split false e = ap (λ b. b && all_scalars (drop (i + 1) w)) e

pub all_past : (w : List ℕ) (i : ℕ) → length w ≤ i → all_scalars w ≡ all_scalars (drop i w) → true ≡ all_scalars w
all_past w i past so_far = sym (so_far ∙ at_drop_all all_scalars w i past)

-- the UTF-8 of the rest of a word, one character on
pub encodes_next : (w before : List ℕ) (i c : ℕ) → i < length w → c ≡ get_or w i c → (before ++ encode_utf8 c) ++ encode_utf8_all (drop (i + 1) w) ≡ before ++ encode_utf8_all (drop i w)
encodes_next w before i c lt is =
    append_assoc before (encode_utf8 c) (encode_utf8_all (drop (i + 1) w))
    ∙ ap (λ l. before ++ l) (sym (at_drop_more encode_utf8_all w i c lt ∙ ap (λ x. encode_utf8_all (x ∷ drop (i + 1) w)) (sym is)))

pub encodes_past : (w before : List ℕ) (i : ℕ) → length w ≤ i → before ++ encode_utf8_all (drop i w) ≡ before
encodes_past w before i past = ap (λ l. before ++ l) (at_drop_all encode_utf8_all w i past) ∙ append-nil before
