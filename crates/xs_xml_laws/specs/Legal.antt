-- Legal lists of pieces.
use Rattle.std.specs.Prelude.{◌≡◌, ℕ, List, [], ◌∷◌, None, Some, if◌then◌else◌, ◌==◌, ◌&&◌, not, Bool, true, false}
use Rattle.std.specs.declared.option.Option.{Option}
use Rattle.xs_xml_laws.specs.Tables.{is_white}
use Rattle.xs_xml_laws.specs.Piece.{Piece, declaration, character, line_end, start_tag, empty_tag, end_tag, comment, instruction, spelt, is_piece, same, starts}

-- the pieces one after the other, and the rest after them
abbrev pub spelt_all : List Piece → List ℕ → List ℕ
spelt_all [] rest = rest
spelt_all (p ∷ ps) rest = spelt p (spelt_all ps rest)

abbrev pub are_pieces : List Piece → Bool
are_pieces [] = true
are_pieces (p ∷ ps) = is_piece p && are_pieces ps

-- a declaration is the first piece, or there is none
abbrev pub no_declaration : List Piece → Bool
no_declaration [] = true
no_declaration (declaration as_ gap ∷ ps) = false
no_declaration (p ∷ ps) = no_declaration ps

abbrev pub is_first : List Piece → Bool
is_first [] = true
is_first (p ∷ ps) = no_declaration ps

-- before the root element; inside it, with the names of the elements that have not ended, the innermost first;
-- or after it has ended
pub data Spot : Type 0 where
  ahead : Spot
  inside : List ℕ → List (List ℕ) → Spot
  beyond : Spot

abbrev pub opened : Spot → List ℕ → Option Spot
opened ahead n = Some (inside n [])
opened (inside m ms) n = Some (inside n (m ∷ ms))
opened beyond n = None

abbrev pub closed : List (List ℕ) → Spot
closed [] = beyond
closed (m ∷ ms) = inside m ms

-- the spot after a piece, where the piece may stand at the spot: before and after the root element only comments,
-- instructions and white space (the declaration has its own rule); after it no tag; an end tag has the name of the
-- innermost element
abbrev pub passed : Spot → Piece → Option Spot
passed s (declaration as_ gap) = Some s
passed s (comment body) = Some s
passed s (instruction n body) = Some s
passed s (start_tag n as_ gap) = opened s n
passed ahead (empty_tag n as_ gap) = Some beyond
passed (inside m ms) (end_tag n gap) = if same n m then Some (closed ms) else None
passed s (end_tag n gap) = None
passed (inside m ms) p = Some (inside m ms)
passed s line_end = Some s
passed s (character c) = if is_white c then Some s else None
passed s p = None

abbrev pub then_passed : Option Spot → Piece → Option Spot
then_passed None p = None
then_passed (Some s) p = passed s p

abbrev pub all_passed : Option Spot → List Piece → Option Spot
all_passed s [] = s
all_passed s (p ∷ ps) = all_passed (then_passed s p) ps

-- no three neighbouring pieces are the characters ], ] and >
abbrev pub is_that : ℕ → Piece → Bool
is_that c (character d) = c == d
is_that c p = false

abbrev pub no_section_end : List Piece → Bool
no_section_end [] = true
no_section_end (p ∷ []) = true
no_section_end (p ∷ q ∷ []) = true
no_section_end (p ∷ q ∷ r ∷ ps) = not (is_that 93 p && (is_that 93 q && is_that 62 r)) && no_section_end (q ∷ r ∷ ps)

-- a piece that is CR alone is not followed by LF
abbrev pub is_alone : Piece → List ℕ → Bool
is_alone (character c) rest = not (c == 13 && starts (10 ∷ []) rest)
is_alone p rest = true

abbrev pub are_alone : List Piece → List ℕ → Bool
are_alone [] rest = true
are_alone (p ∷ ps) rest = is_alone p (spelt_all ps rest) && are_alone ps rest

-- the list is legal and spells the document up to rest; at is the spot where it ends
pub record IsLegal (doc : List ℕ) (ps : List Piece) (rest : List ℕ) (at : Spot) : Type 0 where
  pub spells : doc ≡ spelt_all ps rest
  pub each : are_pieces ps ≡ true
  pub first : is_first ps ≡ true
  pub nested : all_passed (Some ahead) ps ≡ Some at
  pub fences : no_section_end ps ≡ true
  pub alone : are_alone ps rest ≡ true

-- the document begins with the piece, and rest stands after it
pub record BeginsWith (doc : List ℕ) (p : Piece) (rest : List ℕ) : Type 0 where
  pub spells : doc ≡ spelt p rest
  pub is : is_piece p ≡ true
  pub alone : is_alone p rest ≡ true
