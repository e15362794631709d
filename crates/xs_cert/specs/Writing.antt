-- What is written of a side that is accepted.
use Rattle.std.specs.Prelude.{◌≡◌, ◌↔◌, ℕ, Bool, true, List, [], ◌∷◌, ◌++◌, length, map, flat_map, filter, codes}
use Rattle.std.specs.List.{Contains}
use Rattle.xs_auto.specs.Nets.{Graph, final_at}
use Rattle.xs_auto.specs.Nests.{Group, AreShared}
use Rattle.xs_gram.specs.Grammar.{Grammar}
use Rattle.xs_gram.specs.Sound.{IsBuilt}
use Rattle.xs_check_laws.specs.Acceptance.{HasNoSuspect}
use Rattle.xs_meet.specs.Sharing.{Sharing, has_at}
use Rattle.xs_meet.specs.Closed.{Marked, IsApart, IsClear}
use Rattle.xs_loose.specs.Nets.{IsNestOf}
use Rattle.xs_closed.specs.Rows.{Grid, Row, marked}
use Rattle.xs_closed.specs.Least.{Meeting, Rests}
use Rattle.xs_closed.specs.Laws.{IsWithin}
use Rattle.xs_cert_lines.specs.Lines.{Lines, written, set_lines}
use Rattle.xs_cert_laws.specs.Blocks.{Head, Block, head, Pairs, ShowsApart, ShowsClear, IsRight, block_lines, body_lines, of_cut, of_rules}
use Rattle.xs_cert_laws.specs.Certificates.{between, Half, IsHalf, half_lines, all_lines}
use Rattle.xs_cert_laws.specs.Exact.{IsLeast, IsExact}

-- the lines stand after what was written
abbrev pub Adds : List ℕ → List ℕ → Lines → Type 0
Adds old new ls = new ≡ old ++ written ls

-- the groups of which the test says so, each pair with the smaller one first, in order
abbrev pub shares_of : ℕ → (ℕ → ℕ → Bool) → ℕ → List (ℕ × ℕ)
shares_of count r h = map (λ k. (h, k)) (filter (r h) (between h count))

abbrev pub shares_in : ℕ → (ℕ → ℕ → Bool) → List (ℕ × ℕ)
shares_in count r = flat_map (shares_of count r) (between 0 count)

-- a table marks which two groups are known to share a word
abbrev pub Relates : Sharing → Grid → Type 0
Relates s z = (h k : ℕ) → marked z h k ≡ has_at s h k

-- a grammar without suspects, its nest, and for each two groups whether they share a word
pub record IsSource (g : Grammar) (groups : List Group) (related : Grid) : Type 0 where
  pub built : IsBuilt g
  pub nest : IsNestOf g groups
  pub clear : HasNoSuspect g
  pub exact : (h k : ℕ) → (marked related h k ≡ true) ↔ AreShared groups h k

-- no word is found by a search
abbrev pub MeetNowhere : (ℕ → ℕ → Type 0) → Graph → Graph → Type 0
MeetNowhere R m n = (a b : ℕ) → Meeting R m n a b → final_at m a ≡ true → final_at n b ≡ true → ⊥

abbrev pub OverlapNowhere : (ℕ → ℕ → Type 0) → Graph → Graph → Type 0
OverlapNowhere R f e = (a b : ℕ) → Rests R f e a b → final_at e a ≡ true → final_at e b ≡ true → ⊥

-- the least set of two nets, after a line
pub record AddsApart (R : ℕ → ℕ → Type 0) (m n : Graph) (line : List ℕ) (old new : List ℕ) : Type 0 where
  pub set : List Row
  pub shows : ShowsApart R m n set
  pub least : (y : ℕ → ℕ → Bool) → IsApart R m n (Marked y) → IsWithin (Pairs set) (Marked y)
  pub adds : Adds old new (line ∷ set_lines set)

-- a block that is right and least
pub record AddsBlock (g : Grammar) (nest : List Group) (R : ℕ → ℕ → Type 0) (h : Head) (old new : List ℕ) : Type 0 where
  pub block : Block
  pub is_for : head block ≡ h
  pub right : IsRight g nest R block
  pub least : IsLeast R block
  pub adds : Adds old new (block_lines block)

-- such blocks for these heads, in order
pub record AddsBlocks (g : Grammar) (nest : List Group) (R : ℕ → ℕ → Type 0) (hs : List Head) (old new : List ℕ) : Type 0 where
  pub blocks : List Block
  pub are_for : map head blocks ≡ hs
  pub right : (b : Block) → Contains blocks b → IsRight g nest R b × IsLeast R b
  pub adds : Adds old new (flat_map block_lines blocks)

-- the half of a side, whole and exact
pub record AddsHalf (g : Grammar) (old new : List ℕ) : Type 0 where
  pub half : Half
  pub whole : IsHalf g half []
  pub exact : IsExact half
  pub adds : Adds old new (half_lines half)

-- the certificate of two grammars
pub record IsWritten (text xml : Grammar) (bytes : List ℕ) : Type 0 where
  pub text_half : Half
  pub xml_half : Half
  pub text_whole : IsHalf text text_half []
  pub xml_whole : IsHalf xml xml_half []
  pub text_exact : IsExact text_half
  pub xml_exact : IsExact xml_half
  pub is : bytes ≡ written (all_lines text_half xml_half ++ codes "end" ∷ [])
