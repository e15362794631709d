-- A legal list that no piece goes on is the longest one.
use Rattle.std.proofs.Common.{◌≡◌, ⊎_elim, ℕ, ◌≤◌, ◌<◌, ◌+◌, List, [], ◌∷◌, ◌++◌, length, append_assoc, Some, None, true, not, ◌&&◌, refl, sym, ◌∙◌, ap, subst, arith}
use Rattle.std.specs.declared.option.Option.{Option}
use Rattle.xs_xml_laws.specs.Piece.{Piece, Attribute, declaration, character, line_end, reference, start_tag, empty_tag, end_tag, comment, instruction, cdata, spelt, spelt_attributes, is_piece}
use Rattle.xs_xml_laws.specs.Legal.{spelt_all, are_pieces, no_declaration, is_first, Spot, ahead, then_passed, all_passed, is_that, no_section_end, is_alone, are_alone, IsLegal}
use Rattle.xs_xml_laws.specs.Reads.{IsBrokenAt}
use Rattle.xs_xml_laws.proofs.Tags.{attr_long}
use Rattle.xs_xml_laws.proofs.Cutting.{one_cut}
use Rattle.xs_class.proofs.Truth.{and_true, both_true}
use Rattle.xs_class.proofs.Lists.{after_long}

attrs_long : (bs : List Attribute) (rest : List ℕ) → length rest ≤ length (spelt_attributes bs rest)
attrs_long [] rest = omega arith
attrs_long (b ∷ bs) rest = omega (arith, attr_long b (spelt_attributes bs rest), attrs_long bs rest)

pub piece_long : (p : Piece) (rest : List ℕ) → length rest < length (spelt p rest)
piece_long (declaration bs gap) rest = let a = attrs_long bs (gap ++ 63 ∷ 62 ∷ rest) in let b = after_long gap (63 ∷ 62 ∷ rest) in omega (arith, a, b)
piece_long (character c) rest = omega arith
piece_long line_end rest = omega arith
piece_long (reference body) rest = let b = after_long body (59 ∷ rest) in omega (arith, b)
piece_long (start_tag n bs gap) rest = let c = after_long n (spelt_attributes bs (gap ++ 62 ∷ rest)) in let a = attrs_long bs (gap ++ 62 ∷ rest) in let b = after_long gap (62 ∷ rest) in omega (arith, a, b, c)
piece_long (empty_tag n bs gap) rest = let c = after_long n (spelt_attributes bs (gap ++ 47 ∷ 62 ∷ rest)) in let a = attrs_long bs (gap ++ 47 ∷ 62 ∷ rest) in let b = after_long gap (47 ∷ 62 ∷ rest) in omega (arith, a, b, c)
piece_long (end_tag n gap) rest = let c = after_long n (gap ++ 62 ∷ rest) in let b = after_long gap (62 ∷ rest) in omega (arith, b, c)
piece_long (comment body) rest = let b = after_long body (45 ∷ 45 ∷ 62 ∷ rest) in omega (arith, b)
piece_long (instruction n body) rest = let c = after_long n (body ++ 63 ∷ 62 ∷ rest) in let b = after_long body (63 ∷ 62 ∷ rest) in omega (arith, b, c)
piece_long (cdata body) rest = let b = after_long body (93 ∷ 93 ∷ 62 ∷ rest) in omega (arith, b)

pub all_long : (ps : List Piece) (rest : List ℕ) → length rest ≤ length (spelt_all ps rest)
all_long [] rest = omega arith
all_long (p ∷ ps) rest = omega (arith, piece_long p (spelt_all ps rest), all_long ps rest)

-- the front of a legal list is legal
pub spelt_append : (ps qs : List Piece) (rest : List ℕ) → spelt_all (ps ++ qs) rest ≡ spelt_all ps (spelt_all qs rest)
spelt_append [] qs rest = refl
spelt_append (p ∷ ps) qs rest = ap (λ (x : List ℕ). spelt p x) (spelt_append ps qs rest)

pieces_front : (ps qs : List Piece) → are_pieces (ps ++ qs) ≡ true → are_pieces ps ≡ true
pieces_front [] qs is = refl
pieces_front (p ∷ ps) qs is = let a = and_true (is_piece p) (are_pieces (ps ++ qs)) is in both_true (is_piece p) (are_pieces ps) a.0 (pieces_front ps qs a.1)

declaration_front : (ps qs : List Piece) → no_declaration (ps ++ qs) ≡ true → no_declaration ps ≡ true
declaration_front [] qs is = refl
declaration_front (declaration bs gap ∷ ps) qs is = is
declaration_front (character c ∷ ps) qs is = declaration_front ps qs is
declaration_front (line_end ∷ ps) qs is = declaration_front ps qs is
declaration_front (reference body ∷ ps) qs is = declaration_front ps qs is
declaration_front (start_tag n bs gap ∷ ps) qs is = declaration_front ps qs is
declaration_front (empty_tag n bs gap ∷ ps) qs is = declaration_front ps qs is
declaration_front (end_tag n gap ∷ ps) qs is = declaration_front ps qs is
declaration_front (comment body ∷ ps) qs is = declaration_front ps qs is
declaration_front (instruction n body ∷ ps) qs is = declaration_front ps qs is
declaration_front (cdata body ∷ ps) qs is = declaration_front ps qs is

first_front : (ps qs : List Piece) → is_first (ps ++ qs) ≡ true → is_first ps ≡ true
first_front [] qs is = refl
first_front (p ∷ ps) qs is = declaration_front ps qs is

pub none_passed : (qs : List Piece) → all_passed None qs ≡ None
none_passed [] = refl
none_passed (q ∷ qs) = none_passed qs

passed_front : (s : Option Spot) (ps qs : List Piece) (t : Spot) → all_passed s (ps ++ qs) ≡ Some t → (u : Spot) × (all_passed s ps ≡ Some u)
passed_front None [] qs t is = let h = none_passed qs in absurd (cc)
passed_front (Some u) [] qs t is = (u, refl)
passed_front s (p ∷ ps) qs t is = passed_front (then_passed s p) ps qs t is

fence_front : (ps qs : List Piece) → no_section_end (ps ++ qs) ≡ true → no_section_end ps ≡ true
fence_front [] qs is = refl
fence_front (p ∷ []) qs is = refl
fence_front (p ∷ a ∷ []) qs is = refl
fence_front (p ∷ a ∷ b ∷ ps) qs is =
    let x = and_true (not (is_that 93 p && (is_that 93 a && is_that 62 b))) (no_section_end (a ∷ b ∷ (ps ++ qs))) is in
    both_true (not (is_that 93 p && (is_that 93 a && is_that 62 b))) (no_section_end (a ∷ b ∷ ps)) x.0 (fence_front (a ∷ b ∷ ps) qs x.1)

pub alone_front : (ps qs : List Piece) (rest : List ℕ) → are_alone (ps ++ qs) rest ≡ true → are_alone ps (spelt_all qs rest) ≡ true
alone_front [] qs rest is = refl
alone_front (p ∷ ps) qs rest is = let a = and_true (is_alone p (spelt_all (ps ++ qs) rest)) (are_alone (ps ++ qs) rest) is in both_true (is_alone p (spelt_all ps (spelt_all qs rest))) (are_alone ps (spelt_all qs rest)) (subst (λ (x : List ℕ). is_alone p x ≡ true) (spelt_append ps qs rest) a.0) (alone_front ps qs rest a.1)

pub legal_front : (doc : List ℕ) (ps qs : List Piece) (rest : List ℕ) (t : Spot) → IsLegal doc (ps ++ qs) rest t → (u : Spot) × IsLegal doc ps (spelt_all qs rest) u
legal_front doc ps qs rest t is = let go = passed_front (Some ahead) ps qs t is.nested in (
  go.0,
  record {
    spells = is.spells ∙ spelt_append ps qs rest;
    each = pieces_front ps qs is.each;
    first = first_front ps qs is.first;
    nested = go.1;
    fences = fence_front ps qs is.fences;
    alone = alone_front ps qs rest is.alone;
  },
)

-- no piece goes on the list
unfoldable pub IsStuck : List ℕ → List Piece → Type 0
IsStuck doc ps = (q : Piece) (r : List ℕ) (s : Spot) → IsLegal doc (ps ++ q ∷ []) r s → ⊥

no_more : (doc : List ℕ) (ps more : List Piece) (rest v : List ℕ) (s : Spot) → IsStuck doc ps → IsLegal doc (ps ++ more) v s → rest ≡ spelt_all more v → length rest ≤ length v
unfolding IsStuck
no_more doc ps [] rest v s stuck is goes = rw goes (omega arith)
no_more doc ps (q ∷ more) rest v s stuck is goes =
    let again : IsLegal doc ((ps ++ q ∷ []) ++ more) v s = subst (λ (x : List Piece). IsLegal doc x v s) (sym (append_assoc ps (q ∷ []) more)) is in
    let front = legal_front doc (ps ++ q ∷ []) more v s again in absurd (stuck q (spelt_all more v) front.0 front.1)

pub rest_least : (doc : List ℕ) (ps qs : List Piece) (u v : List ℕ) (s t : Spot) → IsStuck doc ps → IsLegal doc ps u s → IsLegal doc qs v t → length u ≤ length v
rest_least doc ps qs u v s t stuck p q = ⊎_elim (λ on. no_more doc ps on.more u v t stuck (subst (λ (x : List Piece). IsLegal doc x v t) on.longer q) on.rest) (λ on. rw on.rest (all_long on.more u)) (one_cut ps qs u v p.each q.each p.alone q.alone (sym p.spells ∙ q.spells))

pub stuck_is_broken : (doc : List ℕ) (ps : List Piece) (rest : List ℕ) (s : Spot) (k : ℕ) → IsLegal doc ps rest s → IsStuck doc ps → k + length rest ≡ length doc → IsBrokenAt doc k
stuck_is_broken doc ps rest s k legal stuck is = record { pieces = ps; rest = rest; at = s; legal = legal; is = is; greatest = λ qs v t q. let h = rest_least doc ps qs rest v s t stuck legal q in omega (arith, h, is) }
