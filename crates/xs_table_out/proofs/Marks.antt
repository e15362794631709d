-- The UTF-8 of a text that begins with a byte order mark.
use Rattle.std.proofs.Common.{◌≡◌, ◌==◌, ℕ, List, [], ◌∷◌, ◌++◌, drop, Bool, true, eqb, Decides, encode_utf8_all, refl, sym, ◌∙◌, ap}
use Rattle.std.specs.Prelude.{if◌then◌else◌}
use Rattle.std.specs.Char.{encode_utf8}
use Rattle.std.specs.List.{starts_with}
use Rattle.std.proofs.lemmas.Str.{encode_same}
use Rattle.std.proofs.lemmas.Slice.Eq.{starts_is}
use Rattle.std.proofs.lemmas.Bool.Decides.{same_from_decides, Decides-eqb}
use Rattle.xs_chars.specs.Text.{byte_order_mark, has_mark, text_bytes}

abbrev pub mark : List ℕ
mark = 239 ∷ 187 ∷ 191 ∷ []

mark_bytes : encode_utf8 byte_order_mark ≡ mark
unfolding encode_utf8
mark_bytes = refl

pub begins_marked : (bytes word : List ℕ) (r : Bool) → r ≡ starts_with eqb bytes mark → bytes ≡ encode_utf8_all word → r ≡ has_mark word
begins_marked bytes [] r r_is is = r_is ∙ ap (λ (b : List ℕ). starts_with eqb b mark) is
begins_marked bytes (c ∷ w) r r_is is =
    let told = starts_is {E = eqb} Decides-eqb bytes mark r r_is in
    let decides : Decides r (c ≡ byte_order_mark) = (
      λ same. (encode_same c byte_order_mark (encode_utf8_all w) (drop 3 bytes) (sym is ∙ told.0 same ∙ ap (λ (m : List ℕ). m ++ drop 3 bytes) (sym mark_bytes))).0,
      λ same. told.1 (encode_utf8_all w) (is ∙ ap (λ d. encode_utf8 d ++ encode_utf8_all w) same ∙ ap (λ (m : List ℕ). m ++ encode_utf8_all w) mark_bytes),
    ) in
    same_from_decides r (c == byte_order_mark) decides (Decides-eqb c byte_order_mark)

-- the bytes of a text that begins with a mark
pub marked : (word bytes all : List ℕ) → true ≡ has_mark word → bytes ≡ encode_utf8_all word → all ≡ mark ++ bytes → all ≡ text_bytes word
marked word bytes all has is all_is =
    all_is ∙ ap (λ (l : List ℕ). mark ++ l) is ∙ ap (λ (m : List ℕ). m ++ encode_utf8_all word) (sym mark_bytes)
    ∙ ap (λ (b : Bool). encode_utf8_all (if b then byte_order_mark ∷ word else word)) has
