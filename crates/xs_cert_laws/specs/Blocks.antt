-- The blocks of a certificate: what they are for, when they are right, and their lines.
use Rattle.std.specs.Prelude.{◌≡◌, ℕ, List, [], ◌∷◌, ◌++◌, slice_range, codes}
use Rattle.xs_auto.specs.Nets.{Graph, states}
use Rattle.xs_auto.specs.Nests.{Group, group_at}
use Rattle.xs_gram.specs.Grammar.{Grammar}
use Rattle.xs_gram.specs.Fences.{spread}
use Rattle.xs_gram.specs.Cuts.{CutsAt}
use Rattle.xs_meet.specs.Closed.{Marked, IsApart, IsClear}
use Rattle.xs_loose.specs.Nets.{IsNumbered}
use Rattle.xs_closed.specs.Rows.{Row, IsSet, holds}
use Rattle.xs_cert_lines.specs.Lines.{Lines, spaced, set_lines}

-- what a block is for: two groups, two rules, or a cut of a rule
pub data Head : Type 0 where
  for_groups : ℕ → ℕ → Head
  for_rules : ℕ → ℕ → Head
  for_cut : ℕ → ℕ → Head

-- a block, with its two nets and a set of pairs of their states; of a cut the nets of its front and
-- its rest, and four sets in the order in which they are written
pub data Block : Type 0 where
  of_groups : ℕ → ℕ → Graph → Graph → List Row → Block
  of_rules : ℕ → ℕ → Graph → Graph → List Row → Block
  of_cut : ℕ → ℕ → Graph → Graph → List Row → List Row → List Row → List Row → Block

abbrev pub head : Block → Head
head (of_groups h k m n z) = for_groups h k
head (of_rules p q m n z) = for_rules p q
head (of_cut p c f e z1 z0 z2 z3) = for_cut p c

-- the pairs of a set
abbrev pub Pairs : List Row → ℕ → ℕ → Type 0
Pairs z = Marked (holds z)

-- a set for two nets, which shows that they share no word, where R relates groups that may share one
pub record ShowsApart (R : ℕ → ℕ → Type 0) (m n : Graph) (z : List Row) : Type 0 where
  pub set : IsSet (states m) (states n) z
  pub apart : IsApart R m n (Pairs z)

-- four sets for the nets of a front and a rest, which show that there is no overlap
pub record ShowsClear (R : ℕ → ℕ → Type 0) (f e : Graph) (z1 z0 z2 z3 : List Row) : Type 0 where
  pub set1 : IsSet (states f) (states f) z1
  pub set0 : IsSet (states f) (states e) z0
  pub set2 : IsSet (states f) (states e) z2
  pub set3 : IsSet (states e) (states e) z3
  pub clear : IsClear R f e (Pairs z1) (Pairs z0) (Pairs z2) (Pairs z3)

-- the nets of the front and the rest of cut c of rule p
pub record AreCutNets (g : Grammar) (p c : ℕ) (f e : Graph) : Type 0 where
  pub start : ℕ
  pub end : ℕ
  pub at : CutsAt g.fences (spread g p) c start end
  pub front : IsNumbered g p start (slice_range (spread g p) start c) f
  pub rest : IsNumbered g p c (slice_range (spread g p) c end) e

-- the nets of the two rules, each for all its spread items
pub record AreRuleNets (g : Grammar) (p q : ℕ) (m n : Graph) : Type 0 where
  pub first : IsNumbered g p 0 (spread g p) m
  pub second : IsNumbered g q 0 (spread g q) n

-- the nets are the contents of the two groups
pub record AreContents (nest : List Group) (h k : ℕ) (m n : Graph) : Type 0 where
  pub first : m ≡ (group_at nest h).content
  pub second : n ≡ (group_at nest k).content

-- the block has its nets, and its sets show what they are for, where R relates groups that may share
-- a word
abbrev pub IsRight : Grammar → List Group → (ℕ → ℕ → Type 0) → Block → Type 0
IsRight g nest R (of_groups h k m n z) = AreContents nest h k m n × ShowsApart R m n z
IsRight g nest R (of_rules p q m n z) = AreRuleNets g p q m n × ShowsApart R m n z
IsRight g nest R (of_cut p c f e z1 z0 z2 z3) = AreCutNets g p c f e × ShowsClear R f e z1 z0 z2 z3

-- the lines of what a block is for
abbrev pub head_line : Head → List ℕ
head_line (for_groups h k) = spaced (codes "group") (h ∷ k ∷ [])
head_line (for_rules p q) = spaced (codes "rules") (p ∷ q ∷ [])
head_line (for_cut p c) = spaced (codes "cut") (p ∷ c ∷ [])

-- the lines of its sets
abbrev pub body_lines : Block → Lines
body_lines (of_groups h k m n z) = set_lines z
body_lines (of_rules p q m n z) = set_lines z
body_lines (of_cut p c f e z1 z0 z2 z3) =
    codes "set 1" ∷ (set_lines z1 ++ codes "set 0" ∷ (set_lines z0 ++ codes "set 2" ∷ (set_lines z2 ++ codes "set 3" ∷ set_lines z3)))

abbrev pub block_lines : Block → Lines
block_lines b = head_line (head b) ∷ body_lines b
