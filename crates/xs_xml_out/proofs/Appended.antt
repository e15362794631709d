-- Bytes that go on with what is written for a word.
use Rattle.std.proofs.Common.{◌≡◌, ℕ, ◌+◌, ◌<◌, List, [], ◌∷◌, ◌++◌, length, take, get_or, Bool, true, false, Option, Some, None, codes, encode_utf8_all, refl, sym, ◌∙◌, ap, subst, append_assoc, append-nil, arith}
use Rattle.std.specs.Prelude.{is_some, IfSome}
use Rattle.std.specs.Char.{IsScalar}
use Rattle.std.specs.Str.{all_scalars}
use Rattle.std.proofs.lemmas.Str.{encodes-append}
use Rattle.xs_class.proofs.Lists.{take_next}
use Rattle.xs_class.proofs.Truth.{and_true}
use Rattle.xs_xml_out.specs.declared.kind.SymbolKind.{SymbolKind}
use Rattle.xs_xml_out.specs.declared.kind.SymbolKind.TheVariants.{Char}
use Rattle.xs_xml_out.specs.declared.mode.Mode.{Mode}
use Rattle.xs_xml_out.specs.declared.mode.Mode.TheVariants.{Content, Tag}
use Rattle.xs_xml_out.specs.Spelling.{mode_of}
use Rattle.xs_xml_out.specs.Written.{symbol_kind, put, next, mode_after, written, rest_bytes, IsAppended}
use Rattle.xs_xml_out.proofs.SymbolKinds.{symbol_kind-scalar}

pub written-append : (names : List (List ℕ)) (mode : Mode) (u v : List ℕ) → written names mode (u ++ v) ≡ written names mode u ++ written names (mode_after mode u) v
written-append names mode [] v = refl
written-append names mode (symbol ∷ u) v = ap (λ (z : List ℕ). put names mode (symbol_kind symbol) ++ z) (written-append names (next mode (symbol_kind symbol)) u v) ∙ sym (append_assoc (put names mode (symbol_kind symbol)) (written names (next mode (symbol_kind symbol)) u) (written names (mode_after (next mode (symbol_kind symbol)) u) v))

pub mode_after-append : (mode : Mode) (u v : List ℕ) → mode_after mode (u ++ v) ≡ mode_after (mode_after mode u) v
mode_after-append mode [] v = refl
mode_after-append mode (symbol ∷ u) v = mode_after-append (next mode (symbol_kind symbol)) u v

pub rest_bytes-append : (names : List (List ℕ)) (mode : Mode) (word rest : List ℕ) → rest_bytes names mode (word ++ rest) ≡ encode_utf8_all (written names mode word) ++ rest_bytes names (mode_after mode word) rest
rest_bytes-append names mode word rest =
    let here = written names mode word in
    let later = written names (mode_after mode word) rest in
    ap (λ (z : List ℕ). encode_utf8_all (z ++ codes "\n")) (written-append names mode word rest)
    ∙ ap encode_utf8_all (append_assoc here later (codes "\n")) ∙ encodes-append here (later ++ codes "\n")

pub rest_bytes-nil : (names : List (List ℕ)) (mode : Mode) → rest_bytes names mode [] ≡ codes "\n"
unfolding lib.Utf8.encode
rest_bytes-nil names mode = refl

-- what is written for the rest of a document comes after a word that is appended
pub appended_rest : (names : List (List ℕ)) (mode after : Mode) (word old new rest : List ℕ) → IsAppended names mode word old new after → new ++ rest_bytes names after rest ≡ old ++ rest_bytes names mode (word ++ rest)
appended_rest names mode after word old new rest is =
    ap (λ (z : List ℕ). z ++ rest_bytes names after rest) is.bytes
    ∙ ap (λ (m : Mode). (old ++ encode_utf8_all (written names mode word)) ++ rest_bytes names m rest) is.mode_is
    ∙ append_assoc old (encode_utf8_all (written names mode word)) (rest_bytes names (mode_after mode word) rest)
    ∙ ap (λ (z : List ℕ). old ++ z) (sym (rest_bytes-append names mode word rest))

pub appended_none : (names : List (List ℕ)) (mode : Mode) (old : List ℕ) → IsAppended names mode [] old old mode
appended_none names mode old = record { bytes = sym (append-nil old); mode_is = refl }

appended_one : (names : List (List ℕ)) (mode after : Mode) (kind : SymbolKind) (symbol : ℕ) (old new : List ℕ) → kind ≡ symbol_kind symbol → new ≡ old ++ encode_utf8_all (put names mode kind) → after ≡ next mode kind → IsAppended names mode (symbol ∷ []) old new after
appended_one names mode after kind symbol old new is_kind is_new is_after = record {
  bytes = is_new ∙ ap (λ (k : SymbolKind). old ++ encode_utf8_all (put names mode k)) is_kind
      ∙ ap (λ (z : List ℕ). old ++ encode_utf8_all z) (sym (append-nil (put names mode (symbol_kind symbol))));
  mode_is = is_after ∙ ap (next mode) is_kind;
}

appended_both : (names : List (List ℕ)) (from mode after : Mode) (u v old now new : List ℕ) → IsAppended names from u old now mode → IsAppended names mode v now new after → IsAppended names from (u ++ v) old new after
appended_both names from mode after u v old now new first second =
    let one = encode_utf8_all (written names from u) in
    let other = encode_utf8_all (written names (mode_after from u) v) in
    record {
      bytes = second.bytes ∙ ap (λ (m : Mode). now ++ encode_utf8_all (written names m v)) first.mode_is
          ∙ ap (λ (z : List ℕ). z ++ other) first.bytes ∙ append_assoc old one other
          ∙ ap (λ (z : List ℕ). old ++ z) (sym (encodes-append (written names from u) (written names (mode_after from u) v)))
          ∙ ap (λ (z : List ℕ). old ++ encode_utf8_all z) (sym (written-append names from u v));
      mode_is = second.mode_is ∙ ap (λ (m : Mode). mode_after m v) first.mode_is ∙ sym (mode_after-append from u v);
    }

-- one symbol more of a word
pub appended_more : (names : List (List ℕ)) (from mode after : Mode) (kind : SymbolKind) (word old now new : List ℕ) (i symbol : ℕ) → i < length word → symbol ≡ get_or word i symbol → kind ≡ symbol_kind symbol → new ≡ now ++ encode_utf8_all (put names mode kind) → after ≡ next mode kind → IsAppended names from (take i word) old now mode → IsAppended names from (take (i + 1) word) old new after
appended_more names from mode after kind word old now new i symbol below read is_kind is_new is_after so_far =
    subst (λ (w : List ℕ). IsAppended names from w old new after) (sym (take_next word i symbol below read))
    (appended_both names from mode after (take i word) (symbol ∷ []) old now new so_far (appended_one names mode after kind symbol now new is_kind is_new is_after))

-- the characters of a value or of content
put_anyway : (names : List (List ℕ)) (in_value : Bool) (c : ℕ) → put [] (mode_of in_value) (Char c) ≡ put names (mode_of in_value) (Char c)
put_anyway names true c = refl
put_anyway names false c = refl

stays : (in_value : Bool) (c : ℕ) → mode_of in_value ≡ next (mode_of in_value) (Char c)
stays true c = refl
stays false c = refl

pub appended_char : (names : List (List ℕ)) (in_value : Bool) (word old now new : List ℕ) (i symbol : ℕ) → i < length word → symbol ≡ get_or word i symbol → IsScalar symbol → new ≡ now ++ encode_utf8_all (put [] (mode_of in_value) (Char symbol)) → IsAppended names (mode_of in_value) (take i word) old now (mode_of in_value) → IsAppended names (mode_of in_value) (take (i + 1) word) old new (mode_of in_value)
appended_char names in_value word old now new i symbol below read is is_new so_far =
    appended_more names (mode_of in_value) (mode_of in_value) (mode_of in_value) (Char symbol) word old now new i symbol below read (sym (symbol_kind-scalar symbol is))
    (is_new ∙ ap (λ (z : List ℕ). now ++ encode_utf8_all z) (put_anyway names in_value symbol)) (stays in_value symbol) so_far

-- the first character after a start tag ends it
tag_ends : (names : List (List ℕ)) (c : ℕ) (w : List ℕ) → IsScalar c → written names Tag (c ∷ w) ≡ 62 ∷ written names Content (c ∷ w)
tag_ends names c w is = rw (symbol_kind-scalar c is) refl

tag_mode : (c : ℕ) (w : List ℕ) → IsScalar c → mode_after Content (c ∷ w) ≡ mode_after Tag (c ∷ w)
tag_mode c w is = rw (symbol_kind-scalar c is) refl

greater : (cs : List ℕ) → encode_utf8_all (62 ∷ cs) ≡ 62 ∷ encode_utf8_all cs
unfolding lib.Utf8.encode
greater cs = refl

appended_tag : (names : List (List ℕ)) (after : Mode) (word old now new : List ℕ) → 0 < length word → all_scalars word ≡ true → now ≡ old ++ 62 ∷ [] → IsAppended names Content word now new after → IsAppended names Tag word old new after
appended_tag names after [] old now new some all is_now is = absurd (omega arith)
appended_tag names after (c ∷ w) old now new some all is_now is =
    let scalar = (and_true _ _ all).0 in
    record {
      bytes = is.bytes ∙ ap (λ (z : List ℕ). z ++ encode_utf8_all (written names Content (c ∷ w))) is_now
          ∙ append_assoc old (62 ∷ []) (encode_utf8_all (written names Content (c ∷ w)))
          ∙ ap (λ (z : List ℕ). old ++ z) (sym (greater (written names Content (c ∷ w))))
          ∙ ap (λ (z : List ℕ). old ++ encode_utf8_all z) (sym (tag_ends names c w scalar));
      mode_is = is.mode_is ∙ tag_mode c w scalar;
    }

pub appended_after_tag : (o : Option Mode) (word old now new : List ℕ) → 0 < length word → now ≡ old ++ 62 ∷ [] → is_some o ≡ all_scalars word → IfSome o (λ after. (names : List (List ℕ)) → IsAppended names Content word now new after) → IfSome o (λ after. (names : List (List ℕ)) → IsAppended names Tag word old new after)
appended_after_tag None word old now new some is_now all is = is
appended_after_tag (Some after) word old now new some is_now all is = λ names. appended_tag names after word old now new some (sym all) is_now (is names)
