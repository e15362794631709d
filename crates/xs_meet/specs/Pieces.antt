-- Words in pieces, each a symbol or a word of two groups.
use Rattle.std.specs.Prelude.{◌≡◌, ℕ, List, [], ◌∷◌, ◌++◌}
use Rattle.xs_auto.specs.Nests.{Group, ShareContent}
use Rattle.xs_meet.specs.declared.piece.Piece.{Piece}
use Rattle.xs_meet.specs.declared.piece.Piece.TheVariants.{Symbol, Groups}

-- a word that both groups read: their fence, and between its symbols a word that both contents
-- accept
pub record Encloses (nest : List Group) (g h : ℕ) (w : List ℕ) : Type 0 where
  pub content : List ℕ
  pub share : ShareContent nest g h content
  pub is : w ≡ share.first.left ∷ (content ++ share.first.right ∷ [])

-- the word that the piece stands for, or one of them
abbrev pub Means : List Group → Piece → List ℕ → Type 0
Means nest (Symbol s) w = w ≡ s ∷ []
Means nest (Groups g h) w = Encloses nest g h w

-- the word is one for each piece, joined in order
pub data Spells (nest : List Group) : List Piece → List ℕ → Type 0 where
  no_piece : Spells nest [] []
  one_piece : {p : Piece} {ps : List Piece} {w : List ℕ} (u v : List ℕ) → Means nest p u → Spells nest ps v → w ≡ u ++ v → Spells nest (p ∷ ps) w
