-- One more piece.
use Rattle.std.proofs.Common.{◌≡◌, ℕ, List, [], ◌∷◌, ◌++◌, Some, true, refl, sym, ◌∙◌, ap, subst}
use Rattle.std.specs.declared.option.Option.{Option}
use Rattle.xs_xml_laws.specs.Piece.{Piece, spelt, is_piece}
use Rattle.xs_xml_laws.specs.Legal.{spelt_all, are_pieces, is_first, no_section_end, Spot, ahead, passed, then_passed, all_passed, is_alone, are_alone, IsLegal, BeginsWith}
use Rattle.xs_xml_laws.proofs.Greatest.{spelt_append}
use Rattle.xs_class.proofs.Truth.{and_true, both_true}

pub pieces_append : (ps qs : List Piece) → are_pieces ps ≡ true → are_pieces qs ≡ true → are_pieces (ps ++ qs) ≡ true
pieces_append [] qs p q = q
pieces_append (x ∷ ps) qs p q = let a = and_true (is_piece x) (are_pieces ps) p in both_true (is_piece x) (are_pieces (ps ++ qs)) a.0 (pieces_append ps qs a.1 q)

pub passed_append : (s : Option Spot) (ps qs : List Piece) → all_passed s (ps ++ qs) ≡ all_passed (all_passed s ps) qs
passed_append s [] qs = refl
passed_append s (p ∷ ps) qs = passed_append (then_passed s p) ps qs

alone_more : (ps : List Piece) (q : Piece) (r : List ℕ) → are_alone ps (spelt q r) ≡ true → is_alone q r ≡ true → are_alone (ps ++ q ∷ []) r ≡ true
alone_more [] q r are is = rw is refl
alone_more (p ∷ ps) q r are is = let a = and_true (is_alone p (spelt_all ps (spelt q r))) (are_alone ps (spelt q r)) are in both_true (is_alone p (spelt_all (ps ++ q ∷ []) r)) (are_alone (ps ++ q ∷ []) r) (subst (λ (x : List ℕ). is_alone p x ≡ true) (sym (spelt_append ps (q ∷ []) r)) a.0) (alone_more ps q r a.1 is)

pub legal_more : (doc : List ℕ) (ps : List Piece) (rest : List ℕ) (s : Spot) (q : Piece) (r : List ℕ) (t : Spot) → IsLegal doc ps rest s → BeginsWith rest q r → passed s q ≡ Some t → is_first (ps ++ q ∷ []) ≡ true → no_section_end (ps ++ q ∷ []) ≡ true → IsLegal doc (ps ++ q ∷ []) r t
legal_more doc ps rest s q r t legal on go first fences = record {
  spells = legal.spells ∙ ap (λ (x : List ℕ). spelt_all ps x) on.spells ∙ sym (spelt_append ps (q ∷ []) r);
  each = pieces_append ps (q ∷ []) legal.each (both_true (is_piece q) true on.is refl);
  first = first;
  nested = passed_append (Some ahead) ps (q ∷ []) ∙ ap (λ (x : Option Spot). then_passed x q) legal.nested ∙ go;
  fences = fences;
  alone = alone_more ps q r (subst (λ (x : List ℕ). are_alone ps x ≡ true) on.spells legal.alone) on.alone;
}
