-- There is one way to cut a document into pieces, so the pieces read one after the other are the most there are.
use Rattle.std.proofs.Common.{◌≡◌, ◌⊎◌, inl, inr, ⊎_elim, ℕ, List, [], ◌∷◌, ◌++◌, append-nil, Some, true, refl, sym, ◌∙◌, ap, subst}
use Rattle.xs_xml_laws.specs.Piece.{Piece, declaration, character, line_end, reference, start_tag, empty_tag, end_tag, comment, instruction, cdata, spelt, is_piece}
use Rattle.xs_xml_laws.specs.Legal.{spelt_all, are_pieces, Spot, ahead, beyond, is_alone, are_alone, IsLegal}
use Rattle.xs_xml_laws.specs.Reads.{Reads, all_symbols}
use Rattle.xs_xml_laws.specs.Scan.{piece_at}
use Rattle.xs_xml_laws.proofs.Reading.{char_read_end, char_read_more, line_end_read, reference_read, end_read, comment_read, instruction_read, cdata_read}
use Rattle.xs_xml_laws.proofs.Tags.{start_read, empty_read, declaration_read}
use Rattle.xs_class.proofs.Truth.{and_true}
use Rattle.xs_class.proofs.Lists.{some_inj}

pub spelt_is_read : (p : Piece) (rest : List ℕ) → is_piece p ≡ true → is_alone p rest ≡ true → piece_at (spelt p rest) ≡ Some (p, rest)
spelt_is_read (declaration bs gap) rest is alone = declaration_read bs gap rest is
spelt_is_read (character c) [] is alone = char_read_end c is
spelt_is_read (character c) (d ∷ rest) is alone = char_read_more c d rest is alone
spelt_is_read line_end rest is alone = line_end_read rest
spelt_is_read (reference body) rest is alone = reference_read body rest is
spelt_is_read (start_tag n bs gap) rest is alone = start_read n bs gap rest is
spelt_is_read (empty_tag n bs gap) rest is alone = empty_read n bs gap rest is
spelt_is_read (end_tag n gap) rest is alone = end_read n gap rest is
spelt_is_read (comment body) rest is alone = comment_read body rest is
spelt_is_read (instruction n body) rest is alone = instruction_read n body rest is
spelt_is_read (cdata body) rest is alone = cdata_read body rest is

pair_parts : (x y : Piece × List ℕ) → x ≡ y → (x.0 ≡ y.0) × (x.1 ≡ y.1)
pair_parts x y e = (ap (λ (z : Piece × List ℕ). z.0) e, ap (λ (z : Piece × List ℕ). z.1) e)

some_pair : (x y : Piece × List ℕ) → Some x ≡ Some y → (x.0 ≡ y.0) × (x.1 ≡ y.1)
some_pair x y is = pair_parts x y (some_inj x y is)

-- the key law: one piece at one place
pub one_piece : (p q : Piece) (u v : List ℕ) → is_piece p ≡ true → is_piece q ≡ true → is_alone p u ≡ true → is_alone q v ≡ true → spelt p u ≡ spelt q v → (p ≡ q) × (u ≡ v)
one_piece p q u v is_p is_q alone_p alone_q same = some_pair (p, u) (q, v) (sym (spelt_is_read p u is_p alone_p) ∙ ap piece_at same ∙ spelt_is_read q v is_q alone_q)

-- of two lists that begin one document one is the front of the other
pub record Goes_on (short long : List Piece) (u v : List ℕ) : Type 0 where
  pub more : List Piece
  pub longer : long ≡ short ++ more
  pub rest : u ≡ spelt_all more v

one_more : (p q : Piece) (ps qs : List Piece) (u v : List ℕ) → p ≡ q → Goes_on ps qs u v → Goes_on (p ∷ ps) (q ∷ qs) u v
one_more p q ps qs u v same on = record { more = on.more; longer = cons_same p q qs (ps ++ on.more) same on.longer; rest = on.rest }
  where
    cons_same : (a b : Piece) (xs ys : List Piece) → a ≡ b → xs ≡ ys → (b ∷ xs) ≡ a ∷ ys
    cons_same a b xs ys e f = cc

pub one_cut : (ps qs : List Piece) (u v : List ℕ) → are_pieces ps ≡ true → are_pieces qs ≡ true → are_alone ps u ≡ true → are_alone qs v ≡ true → spelt_all ps u ≡ spelt_all qs v → Goes_on ps qs u v ⊎ Goes_on qs ps v u
one_cut [] qs u v is_p is_q alone_p alone_q same = inl (record { more = qs; longer = refl; rest = same })
one_cut (p ∷ ps) [] u v is_p is_q alone_p alone_q same = inr (record { more = p ∷ ps; longer = refl; rest = sym same })
one_cut (p ∷ ps) (q ∷ qs) u v is_p is_q alone_p alone_q same =
    let a = and_true (is_piece p) (are_pieces ps) is_p in
    let b = and_true (is_piece q) (are_pieces qs) is_q in
    let c = and_true (is_alone p (spelt_all ps u)) (are_alone ps u) alone_p in
    let d = and_true (is_alone q (spelt_all qs v)) (are_alone qs v) alone_q in
    let e = one_piece p q (spelt_all ps u) (spelt_all qs v) a.0 b.0 c.0 d.0 same in
    ⊎_elim (λ on. inl (one_more p q ps qs u v e.0 on)) (λ on. inr (one_more q p qs ps v u (sym e.0) on)) (one_cut ps qs u v a.1 b.1 c.1 d.1 e.1)

none_is_read : (found : Piece × List ℕ) → piece_at [] ≡ Some found → ⊥
unfolding piece_at
none_is_read found h = cc

read_shorter : (p : Piece) (rest : List ℕ) → is_piece p ≡ true → is_alone p rest ≡ true → spelt p rest ≡ [] → ⊥
read_shorter p rest is alone none = none_is_read (p, rest) (sym (ap piece_at none) ∙ spelt_is_read p rest is alone)

spelt_none : (ps : List Piece) → are_pieces ps ≡ true → are_alone ps [] ≡ true → [] ≡ spelt_all ps [] → ps ≡ []
spelt_none [] is alone none = refl
spelt_none (p ∷ ps) is alone none = absurd (read_shorter p (spelt_all ps []) (and_true (is_piece p) (are_pieces ps) is).0 (and_true (is_alone p (spelt_all ps [])) (are_alone ps []) alone).0 (sym none))

pub are_pieces_back : (ps qs : List Piece) → are_pieces (ps ++ qs) ≡ true → are_pieces qs ≡ true
are_pieces_back [] qs is = is
are_pieces_back (p ∷ ps) qs is = are_pieces_back ps qs (and_true (is_piece p) (are_pieces (ps ++ qs)) is).1

pub are_alone_back : (ps qs : List Piece) (rest : List ℕ) → are_alone (ps ++ qs) rest ≡ true → are_alone qs rest ≡ true
are_alone_back [] qs rest is = is
are_alone_back (p ∷ ps) qs rest is = are_alone_back ps qs rest (and_true (is_alone p (spelt_all (ps ++ qs) rest)) (are_alone (ps ++ qs) rest) is).1

-- two lists that spell all of one document are one list
goes_on_same : (ps qs : List Piece) → are_pieces qs ≡ true → are_alone qs [] ≡ true → Goes_on ps qs [] [] → ps ≡ qs
goes_on_same ps qs is alone on =
    let is_both : are_pieces (ps ++ on.more) ≡ true = subst (λ (x : List Piece). are_pieces x ≡ true) on.longer is in
    let alone_both : are_alone (ps ++ on.more) [] ≡ true = subst (λ (x : List Piece). are_alone x [] ≡ true) on.longer alone in
    let none : on.more ≡ [] = spelt_none on.more (are_pieces_back ps on.more is_both) (are_alone_back ps on.more [] alone_both) on.rest in
    sym (on.longer ∙ ap (λ (x : List Piece). ps ++ x) none ∙ append-nil ps)

pub one_list : (doc : List ℕ) (ps qs : List Piece) (s t : Spot) → IsLegal doc ps [] s → IsLegal doc qs [] t → ps ≡ qs
one_list doc ps qs s t p q = ⊎_elim (λ on. goes_on_same ps qs q.each q.alone on) (λ on. sym (goes_on_same qs ps p.each p.alone on)) (one_cut ps qs [] [] p.each q.each p.alone q.alone (sym p.spells ∙ q.spells))

-- one reading
pub one_word : (names : List (List ℕ)) (doc v w : List ℕ) → Reads names doc v → Reads names doc w → v ≡ w
one_word names doc v w r s = r.gives ∙ ap (λ (x : List Piece). all_symbols names (Some ahead) x) (one_list doc r.pieces s.pieces beyond beyond r.legal s.legal) ∙ sym s.gives
