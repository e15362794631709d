-- Content, as pieces that no rule on neighbours speaks of.
use Rattle.std.proofs.Common.{◌≡◌, ℕ, List, [], ◌∷◌, ◌++◌, Some, true, false, Bool, not, ◌&&◌, if◌then◌else◌, ◌==◌, codes, refl, sym, ◌∙◌, ap, subst, arith, eqb-true}
use Rattle.std.proofs.lemmas.Bool.Decides.{nat_tests}
use Rattle.xs_xml_laws.specs.Tables.{is_char, is_hex}
use Rattle.xs_xml_laws.specs.Piece.{Piece, declaration, character, reference, spelt, is_piece, ref_char}
use Rattle.xs_xml_laws.specs.Legal.{spelt_all, are_pieces, Spot, inside, passed, all_passed}
use Rattle.xs_xml_laws.specs.Reads.{symbols, all_symbols}
use Rattle.xs_xml_out.specs.declared.kind.SymbolKind.TheVariants.{Char}
use Rattle.xs_xml_out.specs.declared.mode.Mode.TheVariants.{Content}
use Rattle.xs_xml_out.specs.Written.{symbol_kind, content_char, written}
use Rattle.xs_xml_out.proofs.SymbolKinds.{symbol_kind-char}
use Rattle.xs_class.proofs.Truth.{both_true}

-- no declaration, and neither > nor CR as it is
abbrev pub is_calm : Piece → Bool
is_calm (declaration as_ gap) = false
is_calm (character c) = not (62 == c) && not (c == 13)
is_calm p = true

abbrev pub are_calm : List Piece → Bool
are_calm [] = true
are_calm (p ∷ ps) = is_calm p && are_calm ps

-- how a character of content is written
abbrev pub char_piece : ℕ → Piece
char_piece c = if c == 38 then reference (codes "amp") else (if c == 60 then reference (codes "lt") else (if c == 62 then reference (codes "gt") else (if c == 13 then reference (codes "#xD") else character c)))

-- the piece is spelt by these characters, may stand in content, and gives c
record IsContentOf (names : List (List ℕ)) (c : ℕ) (p : Piece) (w : List ℕ) : Type 0 where
  spells : (rest : List ℕ) → spelt p rest ≡ w ++ rest
  is : is_piece p ≡ true
  calm : is_calm p ≡ true
  passes : (m : List ℕ) (ms : List (List ℕ)) → passed (inside m ms) p ≡ Some (inside m ms)
  gives : (m : List ℕ) (ms : List (List ℕ)) → symbols names (inside m ms) p ≡ c ∷ []

other_way : (a b : ℕ) → (a == b) ≡ false → (b == a) ≡ false
other_way a b is = grind (arith, nat_tests, is)

module _ (names : List (List ℕ)) where
  amp_content : IsContentOf names 38 (reference (codes "amp")) (codes "&amp;")
  unfolding ref_char
  amp_content = record { spells = λ rest. refl; is = refl; calm = refl; passes = λ m ms. refl; gives = λ m ms. refl }

  lt_content : IsContentOf names 60 (reference (codes "lt")) (codes "&lt;")
  unfolding ref_char
  lt_content = record { spells = λ rest. refl; is = refl; calm = refl; passes = λ m ms. refl; gives = λ m ms. refl }

  gt_content : IsContentOf names 62 (reference (codes "gt")) (codes "&gt;")
  unfolding ref_char
  gt_content = record { spells = λ rest. refl; is = refl; calm = refl; passes = λ m ms. refl; gives = λ m ms. refl }

  carriage_return_content : IsContentOf names 13 (reference (codes "#xD")) (codes "&#xD;")
  unfolding ref_char is_hex is_char
  carriage_return_content = record { spells = λ rest. refl; is = refl; calm = refl; passes = λ m ms. refl; gives = λ m ms. refl }

  plain_content : (c : ℕ) → is_char c ≡ true → (c == 38) ≡ false → (c == 60) ≡ false → (c == 62) ≡ false → (c == 13) ≡ false → IsContentOf names c (character c) (c ∷ [])
  plain_content c is n38 n60 n62 n13 = record { spells = λ rest. refl; is = rw (is, n60, n38) refl; calm = rw (other_way c 62 n62, n13) refl; passes = λ m ms. refl; gives = λ m ms. rw n13 refl }

  char_content : (c : ℕ) → is_char c ≡ true → IsContentOf names c (char_piece c) (content_char c)
  char_content c is = by (c == 38) (c == 60) (c == 62) (c == 13) refl refl refl refl
    where
      by : (t1 t2 t3 t4 : Bool) → (c == 38) ≡ t1 → (c == 60) ≡ t2 → (c == 62) ≡ t3 → (c == 13) ≡ t4 → IsContentOf names c (if t1 then reference (codes "amp") else (if t2 then reference (codes "lt") else (if t3 then reference (codes "gt") else (if t4 then reference (codes "#xD") else character c)))) (if t1 then codes "&amp;" else (if t2 then codes "&lt;" else (if t3 then codes "&gt;" else (if t4 then codes "&#xD;" else c ∷ []))))
      by true t2 t3 t4 e1 e2 e3 e4 = subst (λ (x : ℕ). IsContentOf names x (reference (codes "amp")) (codes "&amp;")) (sym (eqb-true c 38 e1)) amp_content
      by false true t3 t4 e1 e2 e3 e4 = subst (λ (x : ℕ). IsContentOf names x (reference (codes "lt")) (codes "&lt;")) (sym (eqb-true c 60 e2)) lt_content
      by false false true t4 e1 e2 e3 e4 = subst (λ (x : ℕ). IsContentOf names x (reference (codes "gt")) (codes "&gt;")) (sym (eqb-true c 62 e3)) gt_content
      by false false false true e1 e2 e3 e4 = subst (λ (x : ℕ). IsContentOf names x (reference (codes "#xD")) (codes "&#xD;")) (sym (eqb-true c 13 e4)) carriage_return_content
      by false false false false e1 e2 e3 e4 = plain_content c is e1 e2 e3 e4

-- the word is written as calm pieces that nest and give it, whatever stands round it
pub record IsSpelt (names : List (List ℕ)) (w : List ℕ) : Type 0 where
  pub pieces : List Piece
  pub spells : (x : List ℕ) → written names Content (w ++ x) ≡ spelt_all pieces (written names Content x)
  pub each : are_pieces pieces ≡ true
  pub calm : are_calm pieces ≡ true
  pub passes : (m : List ℕ) (ms : List (List ℕ)) → all_passed (Some (inside m ms)) pieces ≡ Some (inside m ms)
  pub gives : (m : List ℕ) (ms : List (List ℕ)) (more : List Piece) → all_symbols names (Some (inside m ms)) (pieces ++ more) ≡ w ++ all_symbols names (Some (inside m ms)) more

pub spelt_nothing : (names : List (List ℕ)) → IsSpelt names []
spelt_nothing names = record { pieces = []; spells = λ x. refl; each = refl; calm = refl; passes = λ m ms. refl; gives = λ m ms more. refl }

text_spells : (names : List (List ℕ)) (c : ℕ) (w x : List ℕ) (p : Piece) (ps : List Piece) → symbol_kind c ≡ Char c → ((rest : List ℕ) → spelt p rest ≡ content_char c ++ rest) → written names Content (w ++ x) ≡ spelt_all ps (written names Content x) → written names Content (c ∷ (w ++ x)) ≡ spelt p (spelt_all ps (written names Content x))
text_spells names c w x p ps kind here again = rw kind (ap (λ (y : List ℕ). content_char c ++ y) again ∙ sym (here (spelt_all ps (written names Content x))))

text_passes : (p : Piece) (ps : List Piece) (s : Spot) → passed s p ≡ Some s → all_passed (Some s) ps ≡ Some s → all_passed (Some s) (p ∷ ps) ≡ Some s
text_passes p ps s here again = rw here again

text_gives : (names : List (List ℕ)) (c : ℕ) (w : List ℕ) (p : Piece) (qs more : List Piece) (s : Spot) → passed s p ≡ Some s → symbols names s p ≡ c ∷ [] → all_symbols names (Some s) qs ≡ w ++ all_symbols names (Some s) more → all_symbols names (Some s) (p ∷ qs) ≡ c ∷ (w ++ all_symbols names (Some s) more)
text_gives names c w p qs more s here is again = rw (is, here) (ap (λ (y : List ℕ). c ∷ y) again)

pub spelt_text : (names : List (List ℕ)) (c : ℕ) (w : List ℕ) → is_char c ≡ true → IsSpelt names w → IsSpelt names (c ∷ w)
spelt_text names c w is d = let one = char_content names c is in record {
  pieces = char_piece c ∷ d.pieces;
  spells = λ x. text_spells names c w x (char_piece c) d.pieces (symbol_kind-char c is) one.spells (d.spells x);
  each = both_true (is_piece (char_piece c)) (are_pieces d.pieces) one.is d.each;
  calm = both_true (is_calm (char_piece c)) (are_calm d.pieces) one.calm d.calm;
  passes = λ m ms. text_passes (char_piece c) d.pieces (inside m ms) (one.passes m ms) (d.passes m ms);
  gives = λ m ms more. text_gives names c w (char_piece c) (d.pieces ++ more) more (inside m ms) (one.passes m ms) (one.gives m ms) (d.gives m ms more);
}
