-- The characters of names, and their UTF-8.
use Rattle.std.proofs.Common.{◌≡◌, ℕ, ◌+◌, ◌<◌, ◌≤◌, length, drop, get_or, encode_utf8, append_assoc, List, [], ◌∷◌, ◌++◌, true, ◌&&◌, encode_utf8_all, refl, sym, ◌∙◌, ap, subst, arith}
use lib.Utf8.{scalar}
use Rattle.std.specs.Char.{IsScalar}
use Rattle.std.specs.Str.{chars, all_scalars}
use Rattle.std.proofs.lemmas.Str.{chars-encodes}
use Rattle.std.proofs.lemmas.Bool.Decides.{nat_tests}
use Rattle.xs_xml_laws.specs.Tables.{is_name_char}
use Rattle.xs_xml_laws.specs.Piece.{all_of, is_name}
use Rattle.xs_xml_laws.proofs.Reading.{name_chars}
use Rattle.xs_form.proofs.Numbers.{drop_next}
use Rattle.xs_class.proofs.Truth.{and_true, both_true}
use Rattle.xs_class.specs.Tables.{is_name_start}

pub name_scalar : (c : ℕ) → is_name_char c ≡ true → IsScalar c
unfolding is_name_char is_name_start
name_scalar c is = grind (arith, nat_tests, is)

pub spelled_more : (whole text after : List ℕ) (name : List ℕ) (i e : ℕ) → i < length name → e ≡ get_or name i e → whole ≡ text ++ encode_utf8_all (drop i name) → all_of is_name_char (drop i name) ≡ true → after ≡ text ++ encode_utf8 e → (whole ≡ after ++ encode_utf8_all (drop (i + 1) name)) × (all_of is_name_char (drop (i + 1) name) ≡ true)
spelled_more whole text after name i e low is so_far names pushed =
    let next = drop_next name i e low is in
    let all : (is_name_char e && all_of is_name_char (drop (i + 1) name)) ≡ true = subst (λ (x : List ℕ). all_of is_name_char x ≡ true) next names in (
      so_far ∙ ap (λ (x : List ℕ). text ++ encode_utf8_all x) next ∙ sym (append_assoc text (encode_utf8 e) (encode_utf8_all (drop (i + 1) name))) ∙ ap (λ (x : List ℕ). x ++ encode_utf8_all (drop (i + 1) name)) (sym pushed),
      (and_true (is_name_char e) (all_of is_name_char (drop (i + 1) name)) all).1,
    )

pub first_scalar : (name : List ℕ) (i e : ℕ) → i < length name → e ≡ get_or name i e → all_of is_name_char (drop i name) ≡ true → IsScalar e
first_scalar name i e low is names =
    let all : (is_name_char e && all_of is_name_char (drop (i + 1) name)) ≡ true = subst (λ (x : List ℕ). all_of is_name_char x ≡ true) (drop_next name i e low is) names in
    name_scalar e (and_true (is_name_char e) (all_of is_name_char (drop (i + 1) name)) all).0

name_scalars : (n : List ℕ) → all_of is_name_char n ≡ true → all_scalars n ≡ true
name_scalars [] all = refl
name_scalars (c ∷ cs) all = let p = and_true (is_name_char c) (all_of is_name_char cs) all in both_true (scalar c) (all_scalars cs) (name_scalar c p.0) (name_scalars cs p.1)

-- a Name is read back from its UTF-8
pub name_back : (n : List ℕ) → is_name n ≡ true → chars (encode_utf8_all n) ≡ n
name_back n is = chars-encodes n (name_scalars n (name_chars n is))

-- so what is known of a name by its UTF-8 is known of the name
pub known_back : {M : Type 0} (mark : List ℕ → M) (m : M) (text spelled n : List ℕ) → m ≡ mark (chars text) → text ≡ spelled → spelled ≡ encode_utf8_all n → is_name n ≡ true → m ≡ mark n
known_back mark m text spelled n by_text same_text is_spelled is = by_text ∙ ap (λ (x : List ℕ). mark (chars x)) (same_text ∙ is_spelled) ∙ ap mark (name_back n is)

pub small_start : (c : ℕ) → 97 ≤ c → c ≤ 122 → true ≡ is_name_start c
unfolding is_name_start
small_start c above below = grind (arith, nat_tests)

pub small_letter : (c : ℕ) → 97 ≤ c → c ≤ 122 → true ≡ is_name_char c
unfolding is_name_char is_name_start
small_letter c above below = grind (arith, nat_tests)
