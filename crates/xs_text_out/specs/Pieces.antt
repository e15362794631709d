-- What productions print, as pieces: a stretch of one text, and then what stands at a slot, if there is one.
use Rattle.std.specs.Prelude.{◌≡◌, ℕ, ◌≤◌, List, [], ◌∷◌, ◌++◌, length, take, drop, Option, None, Some, slice_get, slice_range}
use Rattle.xs_gram.specs.declared.parts.GItem.{GItem}
use Rattle.xs_gram.specs.Common.{spelling}
use Rattle.xs_gram.specs.Grammar.{Grammar, items}
use Rattle.xs_text_out.specs.declared.pieces.Piece.{Piece}
use Rattle.xs_text_out.specs.declared.pieces.Pieces.{Pieces}
use Rattle.xs_text_out.specs.declared.pieces.Row.{Row}
use Rattle.xs_text_out.specs.Printed.{item_word}

-- what is printed at a slot, and nothing where there is none
abbrev pub end_word : Option ℕ → (ℕ → List ℕ) → List ℕ
end_word None at = []
end_word (Some slot) at = at slot

-- what a piece prints, where the text and what stands at the slots are given
abbrev pub piece_word : List ℕ → Piece → (ℕ → List ℕ) → List ℕ
piece_word text piece at = slice_range text piece.begin piece.end ++ end_word piece.slot at

-- what pieces print
abbrev pub pieces_word : List ℕ → List Piece → (ℕ → List ℕ) → List ℕ
pieces_word text [] at = []
pieces_word text (piece ∷ pieces) at = piece_word text piece at ++ pieces_word text pieces at

-- the stretch of a piece is one of the text
pub record IsWithin (text : List ℕ) (piece : Piece) : Type 0 where
  pub risen : piece.begin ≤ piece.end
  pub within : piece.end ≤ length text

abbrev pub AreWithin : List ℕ → List Piece → Type 0
AreWithin text [] = Unit {0}
AreWithin text (piece ∷ pieces) = IsWithin text piece × AreWithin text pieces

-- a list goes on
abbrev pub GoesOn : {X : Type 0} → List X → List X → Type 0
GoesOn {X} xs ys = (more : List X) × (ys ≡ xs ++ more)

-- what the pieces from a number on print, and then the text that no piece has yet
abbrev pub open_word : List ℕ → List Piece → ℕ → ℕ → (ℕ → List ℕ) → List ℕ
open_word text pieces from begin at = pieces_word text (drop from pieces) at ++ drop begin text

-- the piece with the text from a place on, and a slot after it
abbrev pub piece_to : List ℕ → ℕ → Option ℕ → Piece
piece_to text begin slot = record { begin = begin; end = length text; slot = slot }

-- an item is put next
pub record IsPut (g : Grammar) (item : GItem) (begin next : ℕ) (pieces : List Piece) (text : List ℕ) (more : List Piece) (longer : List ℕ) : Type 0 where
  pub pieces_on : GoesOn pieces more
  pub text_on : GoesOn text longer
  pub starts : next ≤ length longer
  pub within : AreWithin longer more
  pub prints : (from : ℕ) (at : ℕ → List ℕ) → from ≤ length pieces → open_word longer more from next at ≡ open_word text pieces from begin at ++ item_word g item at

-- the text that no piece has yet has one
pub record IsClosed (begin : ℕ) (text : List ℕ) (pieces more : List Piece) : Type 0 where
  pub pieces_on : GoesOn pieces more
  pub within : AreWithin text more
  pub prints : (from : ℕ) (at : ℕ → List ℕ) → from ≤ length pieces → pieces_word text (drop from more) at ≡ open_word text pieces from begin at

-- items are put next
pub record IsRowPut (g : Grammar) (is : List GItem) (pieces : List Piece) (text : List ℕ) (more : List Piece) (longer : List ℕ) : Type 0 where
  pub pieces_on : GoesOn pieces more
  pub text_on : GoesOn text longer
  pub within : AreWithin longer more
  pub prints : (at : ℕ → List ℕ) → pieces_word longer (drop (length pieces) more) at ≡ spelling g is at

-- the pieces of a row
abbrev pub row_pieces : List Piece → Row → List Piece
row_pieces all row = drop row.begin (take row.end all)

-- the row of a production
pub record IsRow (g : Grammar) (text : List ℕ) (all : List Piece) (production : ℕ) (row : Row) : Type 0 where
  pub there : row.end ≤ length all
  pub prints : (at : ℕ → List ℕ) → pieces_word text (row_pieces all row) at ≡ spelling g (items g production) at

-- the rows of the first productions
abbrev pub AreRows : Grammar → List ℕ → List Piece → List Row → Type 0
AreRows g text all rows = (production : ℕ) (row : Row) → slice_get rows production ≡ Some row → IsRow g text all production row

-- the pieces of all productions
pub record ArePieces (g : Grammar) (p : Pieces) : Type 0 where
  pub long : length p.rows.items ≡ length g.rules
  pub within : AreWithin p.text.items p.all.items
  pub rows : AreRows g p.text.items p.all.items p.rows.items
