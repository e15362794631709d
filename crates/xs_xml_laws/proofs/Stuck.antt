-- The reader stops where no piece stands, or where the one that stands there is refused.
use Rattle.std.proofs.Common.{◌≡◌, ℕ, List, [], ◌∷◌, ◌++◌, Some, true, refl, sym, ◌∙◌, ap, subst}
use Rattle.xs_xml_laws.specs.Piece.{Piece, spelt, is_piece}
use Rattle.xs_xml_laws.specs.Legal.{spelt_all, are_pieces, Spot, is_alone, are_alone, IsLegal}
use Rattle.xs_xml_laws.specs.Scan.{piece_at}
use Rattle.xs_xml_laws.specs.Legal.{all_passed, ahead, beyond}
use Rattle.xs_xml_laws.specs.Reads.{Reads}
use Rattle.std.proofs.Common.{◌≤◌, length, arith}
use Rattle.xs_xml_laws.proofs.Cutting.{one_list}
use Rattle.xs_xml_laws.proofs.Greatest.{rest_least}
use Rattle.xs_xml_laws.proofs.Cutting.{one_piece, spelt_is_read, are_pieces_back, are_alone_back}
use Rattle.xs_xml_laws.proofs.Greatest.{IsStuck, spelt_append, alone_front}
use Rattle.xs_class.proofs.Truth.{and_true}

same_rest : (ps : List Piece) (u v : List ℕ) → are_pieces ps ≡ true → are_alone ps u ≡ true → are_alone ps v ≡ true → spelt_all ps u ≡ spelt_all ps v → u ≡ v
same_rest [] u v is a b e = e
same_rest (p ∷ ps) u v is a b e =
    let x = and_true (is_piece p) (are_pieces ps) is in
    let y = and_true (is_alone p (spelt_all ps u)) (are_alone ps u) a in
    let z = and_true (is_alone p (spelt_all ps v)) (are_alone ps v) b in
    same_rest ps u v x.1 y.1 z.1 (one_piece p p (spelt_all ps u) (spelt_all ps v) x.0 x.0 y.0 z.0 e).1

pub stuck_unless : (doc : List ℕ) (ps : List Piece) (rest : List ℕ) (s : Spot) → IsLegal doc ps rest s → ((q : Piece) (r : List ℕ) (t : Spot) → piece_at rest ≡ Some (q, r) → IsLegal doc (ps ++ q ∷ []) r t → ⊥) → IsStuck doc ps
unfolding IsStuck
stuck_unless doc ps rest s legal refused q r t on =
    let is : rest ≡ spelt q r = same_rest ps rest (spelt q r) legal.each legal.alone (alone_front ps (q ∷ []) r on.alone) (sym legal.spells ∙ on.spells ∙ spelt_append ps (q ∷ []) r) in
    let piece = (and_true (is_piece q) true (are_pieces_back ps (q ∷ []) on.each)).0 in
    let alone = (and_true (is_alone q r) true (are_alone_back ps (q ∷ []) r on.alone)).0 in
    refused q r t (ap piece_at is ∙ spelt_is_read q r piece alone) on

-- where a document is read at all, the list that nothing goes on spells all of it and ends after the root
no_length : (xs : List ℕ) → length xs ≤ 0 → xs ≡ []
no_length [] h = refl
no_length (x ∷ xs) h = absurd (omega (arith, h))

same_spot : (s t : Spot) → Some s ≡ Some t → s ≡ t
same_spot s t h = cc

pub reads_whole : (names : List (List ℕ)) (doc w : List ℕ) (ps : List Piece) (rest : List ℕ) (s : Spot) → IsLegal doc ps rest s → IsStuck doc ps → Reads names doc w → (rest ≡ []) × (s ≡ beyond)
reads_whole names doc w ps rest s legal stuck r =
    let none : rest ≡ [] = no_length rest (rest_least doc ps r.pieces rest [] s beyond stuck legal r.legal) in
    let all : IsLegal doc ps [] s = subst (λ (x : List ℕ). IsLegal doc ps x s) none legal in
    let same : ps ≡ r.pieces = one_list doc ps r.pieces s beyond all r.legal in
    (none, same_spot s beyond (sym legal.nested ∙ ap (λ (x : List Piece). all_passed (Some ahead) x) same ∙ r.legal.nested))
