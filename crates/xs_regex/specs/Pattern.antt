-- Patterns: the grammar of regular expressions as a relation between characters and a tree.
use Rattle.std.specs.Prelude.{◌≡◌, ◌≢◌, ◌⊎◌, ℕ, suc, ◌+◌, ◌*◌, ◌≤◌, List, [], ◌∷◌, length, None, Some}
use Rattle.std.specs.declared.option.Option.{Option}
use Rattle.xs_regex.specs.Characters.{set_at, counts_at, Sort}
use Rattle.xs_regex.specs.Size.{copies}

-- what a pattern says
pub data Tree : Type 0 where
  nothing : Tree
  class : Sort → Tree
  both : Tree → Tree → Tree
  either : Tree → Tree → Tree
  any : Tree → Tree
  times : Tree → ℕ → Option ℕ → Tree

-- a regex and a sequence end at the end, before a bar or before a closing parenthesis
abbrev pub Stops : List ℕ → Type 0
Stops [] = Unit {0}
Stops (c ∷ cs) = (c ≡ 124) ⊎ (c ≡ 41)

abbrev pub Ends : List ℕ → Type 0
Ends [] = Unit {0}
Ends (c ∷ cs) = c ≡ 41

-- no count stands here
abbrev pub IsPlainNext : List ℕ → Type 0
IsPlainNext [] = Unit {0}
IsPlainNext (c ∷ cs) = (c ≢ 42) × (c ≢ 43) × (c ≢ 63) × (c ≢ 123)

-- after a tree: nothing, `*`, `+`, `?` or counts in braces; then what is left
pub data IsCounted (t : Tree) : List ℕ → Tree → List ℕ → Type 0 where
  once : {cs : List ℕ} → IsPlainNext cs → IsCounted t cs t cs
  star : {cs rest : List ℕ} → cs ≡ 42 ∷ rest → IsCounted t cs (any t) rest
  plus : {cs rest : List ℕ} → cs ≡ 43 ∷ rest → IsCounted t cs (times t 1 None) rest
  question : {cs rest : List ℕ} → cs ≡ 63 ∷ rest → IsCounted t cs (times t 0 (Some 1)) rest
  braces : {cs rest : List ℕ} → (least : ℕ) → (most : Option ℕ) → (inner : List ℕ) → cs ≡ 123 ∷ inner → counts_at inner ≡ Some ((least, most), rest) → IsCounted t cs (times t least most) rest

-- the characters begin with such a part of a pattern, whose parentheses are at most so deep, and
-- then comes what is left
mutual
  -- sequences with bars between them
  pub data IsRegex : ℕ → List ℕ → Tree → List ℕ → Type 0 where
    one_sequence : {depth : ℕ} {cs rest : List ℕ} {t : Tree} → IsSequence depth cs t rest → IsRegex depth cs t rest
    bar : {depth : ℕ} {cs rest : List ℕ} {t u : Tree} → (left : List ℕ) → IsSequence depth cs t (124 ∷ left) → IsRegex depth left u rest → IsRegex depth cs (either t u) rest

  -- any number of pieces
  pub data IsSequence : ℕ → List ℕ → Tree → List ℕ → Type 0 where
    no_piece : {depth : ℕ} {cs : List ℕ} → IsSequence depth cs nothing cs
    pieces : {depth : ℕ} {cs rest : List ℕ} {t : Tree} → ArePieces depth cs t rest → IsSequence depth cs t rest

  pub data ArePieces : ℕ → List ℕ → Tree → List ℕ → Type 0 where
    last_piece : {depth : ℕ} {cs rest : List ℕ} {t : Tree} → IsPiece depth cs t rest → ArePieces depth cs t rest
    next_piece : {depth : ℕ} {cs rest : List ℕ} {t u : Tree} → (left : List ℕ) → IsPiece depth cs t left → ArePieces depth left u rest → ArePieces depth cs (both t u) rest

  -- an atom and its count
  pub data IsPiece : ℕ → List ℕ → Tree → List ℕ → Type 0 where
    piece : {depth : ℕ} {cs rest : List ℕ} {u : Tree} → (t : Tree) → (left : List ℕ) → IsAtom depth cs t left → IsCounted t left u rest → IsPiece depth cs u rest

  -- a set of characters, or a regex in parentheses
  pub data IsAtom : ℕ → List ℕ → Tree → List ℕ → Type 0 where
    set : {depth : ℕ} {cs rest : List ℕ} → (s : Sort) → set_at cs ≡ Some (s, rest) → IsAtom depth cs (class s) rest
    group : {depth : ℕ} {cs rest : List ℕ} {t : Tree} → (inner : List ℕ) → cs ≡ 40 ∷ inner → IsRegex depth inner t (41 ∷ rest) → IsAtom (suc depth) cs t rest

-- how many positions the regex of a tree has
abbrev pub tree_size : Tree → ℕ
tree_size nothing = 0
tree_size (class s) = 1
tree_size (both t u) = tree_size t + tree_size u
tree_size (either t u) = tree_size t + tree_size u
tree_size (any t) = tree_size t
tree_size (times t least most) = copies least most * tree_size t

-- the whole pattern is a regex, within the bounds: 2,048 characters, parentheses 64 deep, size 512
pub record IsReading (pattern : List ℕ) (t : Tree) : Type 0 where
  pub short : length pattern ≤ 2048
  pub regex : IsRegex 64 pattern t []
  pub small : tree_size t ≤ 512
