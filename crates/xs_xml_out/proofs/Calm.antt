-- Calm pieces that nest are a legal list.
use Rattle.std.proofs.Common.{◌≡◌, ℕ, List, [], ◌∷◌, ◌++◌, Some, true, false, Bool, not, ◌&&◌, ◌==◌, refl}
use Rattle.xs_xml_laws.specs.Piece.{Piece, declaration, character, line_end, reference, start_tag, empty_tag, end_tag, comment, instruction, cdata}
use Rattle.xs_xml_laws.specs.Legal.{spelt_all, are_pieces, no_declaration, is_first, Spot, ahead, all_passed, is_that, no_section_end, is_alone, are_alone, IsLegal}
use Rattle.xs_xml_out.proofs.Content.{is_calm, are_calm}
use Rattle.xs_class.proofs.Truth.{and_true, both_true, not_true, and_no}

pub are_calm-append : (ps qs : List Piece) → are_calm ps ≡ true → are_calm qs ≡ true → are_calm (ps ++ qs) ≡ true
are_calm-append [] qs p q = q
are_calm-append (x ∷ ps) qs p q = let a = and_true (is_calm x) (are_calm ps) p in both_true (is_calm x) (are_calm (ps ++ qs)) a.0 (are_calm-append ps qs a.1 q)

calm_declaration : (ps : List Piece) → are_calm ps ≡ true → no_declaration ps ≡ true
calm_declaration [] calm = refl
calm_declaration (declaration bs gap ∷ ps) calm = absurd (cc)
calm_declaration (character c ∷ ps) calm = calm_declaration ps (and_true (is_calm (character c)) (are_calm ps) calm).1
calm_declaration (line_end ∷ ps) calm = calm_declaration ps calm
calm_declaration (reference body ∷ ps) calm = calm_declaration ps calm
calm_declaration (start_tag m bs gap ∷ ps) calm = calm_declaration ps calm
calm_declaration (empty_tag m bs gap ∷ ps) calm = calm_declaration ps calm
calm_declaration (end_tag m gap ∷ ps) calm = calm_declaration ps calm
calm_declaration (comment body ∷ ps) calm = calm_declaration ps calm
calm_declaration (instruction m body ∷ ps) calm = calm_declaration ps calm
calm_declaration (cdata body ∷ ps) calm = calm_declaration ps calm

calm_first : (ps : List Piece) → are_calm ps ≡ true → is_first ps ≡ true
calm_first [] calm = refl
calm_first (p ∷ ps) calm = calm_declaration ps (and_true (is_calm p) (are_calm ps) calm).1

calm_greater : (p : Piece) → is_calm p ≡ true → is_that 62 p ≡ false
calm_greater (character c) calm = not_true (62 == c) (and_true (not (62 == c)) (not (c == 13)) calm).0
calm_greater p calm = refl

calm_alone : (p : Piece) (rest : List ℕ) → is_calm p ≡ true → is_alone p rest ≡ true
calm_alone (character c) rest calm = rw (not_true (c == 13) (and_true (not (62 == c)) (not (c == 13)) calm).1) refl
calm_alone p rest calm = refl

all_calm_alone : (ps : List Piece) (rest : List ℕ) → are_calm ps ≡ true → are_alone ps rest ≡ true
all_calm_alone [] rest calm = refl
all_calm_alone (p ∷ ps) rest calm = let a = and_true (is_calm p) (are_calm ps) calm in both_true (is_alone p (spelt_all ps rest)) (are_alone ps rest) (calm_alone p (spelt_all ps rest) a.0) (all_calm_alone ps rest a.1)

no_three : (x y z : Bool) → z ≡ false → not (x && (y && z)) ≡ true
no_three x y z e = rw (e, and_no y, and_no x) refl

calm_section_end : (ps : List Piece) → are_calm ps ≡ true → no_section_end ps ≡ true
calm_section_end [] calm = refl
calm_section_end (p ∷ []) calm = refl
calm_section_end (p ∷ a ∷ []) calm = refl
calm_section_end (p ∷ a ∷ b ∷ ps) calm =
    let x = and_true (is_calm p) (are_calm (a ∷ b ∷ ps)) calm in
    let y = and_true (is_calm a) (are_calm (b ∷ ps)) x.1 in
    let z = and_true (is_calm b) (are_calm ps) y.1 in
    both_true (not (is_that 93 p && (is_that 93 a && is_that 62 b))) (no_section_end (a ∷ b ∷ ps)) (no_three (is_that 93 p) (is_that 93 a) (is_that 62 b) (calm_greater b z.0)) (calm_section_end (a ∷ b ∷ ps) x.1)

pub calm_legal : (doc : List ℕ) (ps : List Piece) (rest : List ℕ) (at : Spot) → doc ≡ spelt_all ps rest → are_pieces ps ≡ true → are_calm ps ≡ true → all_passed (Some ahead) ps ≡ Some at → IsLegal doc ps rest at
calm_legal doc ps rest at spells each calm nested = record { spells = spells; each = each; first = calm_first ps calm; nested = nested; fences = calm_section_end ps calm; alone = all_calm_alone ps rest calm }
