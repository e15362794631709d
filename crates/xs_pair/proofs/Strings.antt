-- The strings of a sheet that bytes spell have characters alone: none of their symbols is a mark.
use Rattle.std.proofs.Common.{◌≡◌, ◌∙◌, ◌<◌, ◌≤◌, inl, inr, ap, sym, refl, subst, ℕ, zero, suc, List, [], ◌∷◌, ◌++◌, map, length, take, Bool, true, false, ◌==◌, ◌&&◌, nat_le, nat_lt, if◌then◌else◌, arith}
use Rattle.std.specs.List.{list_all}
use Rattle.std.specs.Str.{chars, IsUtf8, is_utf8, all_scalars}
use Rattle.std.specs.Str.Lossy.{utf8_valid_len}
use Rattle.std.proofs.lemmas.Bool.{cases_lt}
use Rattle.std.proofs.lemmas.Str.{IsUtf8-nil, IsUtf8-from_is_utf8, is_utf8-from_IsUtf8, utf8_valid_len-IsUtf8, utf8_valid_len-IsValidUpTo, scalars-chars}
use Rattle.xs_class.proofs.Truth.{and_true, lt_is, false_true}
use Rattle.xs_gram.specs.Laws.{Every}
use Rattle.xs_gram.specs.Building.{EachOf}
use Rattle.xs_lex.specs.declared.kind.Kind.{Kind}
use Rattle.xs_lex.specs.declared.kind.Kind.TheVariants.{Quoted}
use Rattle.xs_lex.specs.Between.{Blank, white, comment, spelt_blanks}
use Rattle.xs_lex.specs.Reading.{Lexeme, Extent, AreTokensFrom, valid, after_mark, extent_of}
use Rattle.xs_lex.specs.Spelling.{IsQuoted}
use Rattle.xs_lex.specs.Units.{QuotedUnit, plain, escaped, coded, is_quoted_unit, is_hex, is_scalar, escape_char, number, spelt_quoted, meaning}
use Rattle.xs_sheet.specs.declared.sheet.Sheet.{Sheet}
use Rattle.xs_sheet.specs.Pieces.{IsTextOf}
use Rattle.xs_sheet.specs.Grammar.{IsSheetOf}
use Rattle.xs_pair.specs.Listing.{rules_of}
use Rattle.xs_pair.proofs.Said.{IsSaidOfToken, IsSaidOfRule, said_of_rules}

-- each symbol is below the marks
abbrev pub AreLow : List ℕ → Type 0
AreLow w = Every (λ c. c < 1114112) w

low_front : (u v : List ℕ) → AreLow (u ++ v) → AreLow u
low_front [] v low = tt
low_front (c ∷ u) v low = (low.0, low_front u v low.1)

low_back : (u v : List ℕ) → AreLow (u ++ v) → AreLow v
low_back [] v low = low
low_back (c ∷ u) v low = low_back u v low.1

-- the front of bytes that is UTF-8 spells characters
taken_all : (bs : List ℕ) (m : ℕ) → length bs ≤ m → take m bs ≡ bs
taken_all [] zero le = refl
taken_all [] (suc m) le = refl
taken_all (b ∷ bs) zero le = absurd (omega arith)
taken_all (b ∷ bs) (suc m) le = ap (λ (z : List ℕ). b ∷ z) (taken_all bs m (omega arith))

not_text : (bs : List ℕ) → is_utf8 bs ≡ false → IsUtf8 bs → ⊥
not_text bs other text = false_true (sym other ∙ is_utf8-from_IsUtf8 bs text)

front_text : (bs : List ℕ) (n : ℕ) → n < length bs → ((m : ℕ) → n < m → IsUtf8 (take m bs) → ⊥) → IsUtf8 (take (utf8_valid_len bs) bs)
front_text bs zero short longest =
    subst (λ (k : ℕ). IsUtf8 (take k bs)) (sym (utf8_valid_len-IsValidUpTo bs 0 (record { short = short; front = IsUtf8-nil; longest = longest }))) IsUtf8-nil
front_text bs (suc n) short longest = by (is_utf8 (take (suc n) bs)) refl (front_text bs n)
  where
    by : (t : Bool) → is_utf8 (take (suc n) bs) ≡ t → (n < length bs → ((m : ℕ) → n < m → IsUtf8 (take m bs) → ⊥) → IsUtf8 (take (utf8_valid_len bs) bs)) → IsUtf8 (take (utf8_valid_len bs) bs)
    by true is again =
        let text : IsUtf8 (take (suc n) bs) = IsUtf8-from_is_utf8 (take (suc n) bs) is in
        subst (λ (k : ℕ). IsUtf8 (take k bs)) (sym (utf8_valid_len-IsValidUpTo bs (suc n) (record { short = short; front = text; longest = longest }))) text
    by false other again = again (omega arith) (λ m lt text. elim (cases_lt (suc n) m) [ inl above ↦ longest m above text | inr low ↦ (let e : m ≡ suc n = omega arith in not_text (take (suc n) bs) other (subst (λ (k : ℕ). IsUtf8 (take k bs)) e text)) ])

valid_text : (bs : List ℕ) → IsUtf8 (valid bs)
valid_text [] = subst (λ (k : ℕ). IsUtf8 (take k [])) (sym (utf8_valid_len-IsUtf8 [] IsUtf8-nil)) IsUtf8-nil
valid_text (b ∷ bs) = by (is_utf8 (b ∷ bs)) refl
  where
    by : (t : Bool) → is_utf8 (b ∷ bs) ≡ t → IsUtf8 (valid (b ∷ bs))
    by true is =
        let text : IsUtf8 (b ∷ bs) = IsUtf8-from_is_utf8 (b ∷ bs) is in
        subst (λ (z : List ℕ). IsUtf8 z) (sym (taken_all (b ∷ bs) (utf8_valid_len (b ∷ bs)) (omega (arith, utf8_valid_len-IsUtf8 (b ∷ bs) text)))) text
    by false other = front_text (b ∷ bs) (length bs) (omega arith) (λ m lt text. not_text (b ∷ bs) other (subst (λ (z : List ℕ). IsUtf8 z) (taken_all (b ∷ bs) m (omega arith)) text))

scalar_low : (c : ℕ) → (if nat_lt c 0xD800 then true else nat_le 0xE000 c && nat_lt c 0x110000) ≡ true → c < 1114112
scalar_low c is = by (nat_lt c 0xD800) refl is
  where
    by : (t : Bool) → nat_lt c 0xD800 ≡ t → (if t then true else nat_le 0xE000 c && nat_lt c 0x110000) ≡ true → c < 1114112
    by true low is = omega (arith, lt_is c 0xD800 low)
    by false high is = lt_is c 0x110000 (and_true (nat_le 0xE000 c) (nat_lt c 0x110000) is).1

scalars_low : (w : List ℕ) → all_scalars w ≡ true → AreLow w
scalars_low [] is = tt
scalars_low (c ∷ w) is = let both = and_true _ (all_scalars w) is in (scalar_low c both.0, scalars_low w both.1)

marked_low : (w : List ℕ) → AreLow w → AreLow (after_mark w)
marked_low [] low = tt
marked_low (c ∷ w) low = by (c == 0xFEFF)
  where
    by : (t : Bool) → AreLow (if t then w else c ∷ w)
    by true = low.1
    by false = low

-- tokens
blanks_low : (bs : List Blank) (rest : List ℕ) → AreLow (spelt_blanks bs rest) → AreLow rest
blanks_low [] rest low = low
blanks_low (white c ∷ bs) rest low = blanks_low bs rest low.1
blanks_low (comment body ∷ bs) rest low = blanks_low bs rest (low_back body (spelt_blanks bs rest) low.1)

escape_low : (c : ℕ) → c < 1114112 → escape_char c < 1114112
escape_low c low = first (c == 110)
  where
    third : (t : Bool) → (if t then 13 else c) < 1114112
    third true = omega arith
    third false = low

    second : (t : Bool) → (if t then 9 else (if c == 114 then 13 else c)) < 1114112
    second true = omega arith
    second false = third (c == 114)

    first : (t : Bool) → (if t then 10 else (if c == 116 then 9 else (if c == 114 then 13 else c))) < 1114112
    first true = omega arith
    first false = second (c == 116)

units_low : (us : List QuotedUnit) (rest : List ℕ) → list_all is_quoted_unit us ≡ true → AreLow (spelt_quoted us rest) → AreLow (map meaning us)
units_low [] rest each low = tt
units_low (plain c ∷ us) rest each low = (low.0, units_low us rest (and_true (is_quoted_unit (plain c)) (list_all is_quoted_unit us) each).1 low.1)
units_low (escaped c ∷ us) rest each low = (escape_low c low.1.0, units_low us rest (and_true (is_quoted_unit (escaped c)) (list_all is_quoted_unit us) each).1 low.1.1)
units_low (coded ds ∷ us) rest each low =
    let both = and_true (is_quoted_unit (coded ds)) (list_all is_quoted_unit us) each in
    let hex = and_true (list_all is_hex ds) (nat_le 1 (length ds) && (nat_le (length ds) 6 && is_scalar (number 0 ds))) both.0 in
    let some = and_true (nat_le 1 (length ds)) (nat_le (length ds) 6 && is_scalar (number 0 ds)) hex.1 in
    let scalar = (and_true (nat_le (length ds) 6) (is_scalar (number 0 ds)) some.1).1 in
    (scalar_low (number 0 ds) scalar, units_low us rest both.1 (low_back ds (125 ∷ spelt_quoted us rest) low.1.1.1).1)

quoted_low : (word text : List ℕ) → IsQuoted word text → AreLow word → AreLow text
quoted_low word text q low = subst AreLow (sym q.means) (units_low q.units (34 ∷ []) q.each (subst AreLow q.is low).1)

-- a string's text is low
abbrev pub IsLowText : Kind → List ℕ → Type 0
IsLowText Quoted text = AreLow text
IsLowText kind text = Unit {0}

text_low : (k : Kind) (word text : List ℕ) → IsTextOf k word text → AreLow word → IsLowText k text
text_low Quoted word text is low = quoted_low word text is low
text_low kind word text is low = tt

tokens_low : (x : Extent) (text : List ℕ) (ts : List Lexeme) → AreTokensFrom x text ts → AreLow text → EachOf (IsSaidOfToken IsLowText) ts
tokens_low x text [] are low = absurd are
tokens_low x text (t ∷ ts) (rest, apart, stands, inl last) low = (λ z is. text_low t.kind t.word z is (subst AreLow (sym last.1.word) tt), subst (EachOf (IsSaidOfToken IsLowText)) (sym last.0) tt)
tokens_low x text (t ∷ ts) (rest, apart, stands, inr more) low =
    let here : AreLow rest = blanks_low apart.blanks rest (subst AreLow apart.is low) in
    let split : AreLow (t.word ++ more.0) = subst AreLow more.1.begins.is here in
    (λ z is. text_low t.kind t.word z is (low_front t.word more.0 split), tokens_low x more.0 ts more.2 (low_back t.word more.0 split))

-- the strings of a sheet that bytes spell have characters alone
pub rules_low : (bytes : List ℕ) (s : Sheet) → IsSheetOf bytes s → EachOf (IsSaidOfRule IsLowText) (rules_of s.units)
rules_low bytes s is =
    let low : AreLow (chars (valid bytes)) = scalars_low (chars (valid bytes)) (scalars-chars (valid bytes) (valid_text bytes)) in
    said_of_rules IsLowText bytes s is (tokens_low (extent_of bytes) (after_mark (chars (valid bytes))) is.tokens is.tokens_are (marked_low (chars (valid bytes)) low))
