-- Certificates of the two grammars of a sheet, and good fronts of what is none.
use Rattle.std.specs.Prelude.{◌≡◌, ℕ, suc, ◌-◌, ◌≤◌, ◌<◌, min, max, List, [], ◌∷◌, ◌++◌, length, map, flat_map, Bool, true, false, ◌&&◌, ◌||◌, not, nat_eq, codes}
use Rattle.std.specs.List.{Contains, filter, range_with_len}
use Rattle.xs_auto.specs.Nests.{Group, group_at}
use Rattle.xs_gram.specs.Grammar.{Grammar, rule_of}
use Rattle.xs_gram.specs.Fences.{spread}
use Rattle.xs_pair.specs.Grammars.{Pair}
use Rattle.xs_check_laws.specs.Acceptance.{IsBefore}
use Rattle.xs_loose.specs.Nets.{IsNestOf}
use Rattle.xs_cert_lines.specs.Lines.{Lines, spaced, written}
use Rattle.xs_cert_laws.specs.Blocks.{Head, for_groups, for_rules, for_cut, Block, head, IsRight, block_lines}

-- whether the pair is in the list
abbrev pub has_pair : List (ℕ × ℕ) → ℕ → ℕ → Bool
has_pair [] h k = false
has_pair (s ∷ ss) h k = (nat_eq s.0 h && nat_eq s.1 k) || has_pair ss h k

-- whether two groups are said to share a word
abbrev pub is_shared : List (ℕ × ℕ) → ℕ → ℕ → Bool
is_shared shares h k = has_pair shares (min h k) (max h k)

abbrev pub Shares : List (ℕ × ℕ) → ℕ → ℕ → Type 0
Shares shares h k = is_shared shares h k ≡ true

-- whether two groups have one fence
abbrev pub one_fence : List Group → ℕ → ℕ → Bool
one_fence nest h k = nat_eq (group_at nest h).left (group_at nest k).left && nat_eq (group_at nest h).right (group_at nest k).right

-- the pair of groups, the smaller first, have one fence
pub record IsFencePair (nest : List Group) (h k : ℕ) : Type 0 where
  pub order : h ≤ k
  pub within : k < length nest
  pub fence : one_fence nest h k ≡ true

-- pairs of groups of one fence, in ascending order
abbrev pub AreShares : List Group → List (ℕ × ℕ) → Type 0
AreShares nest [] = Unit {0}
AreShares nest (s ∷ []) = IsFencePair nest s.0 s.1
AreShares nest (s ∷ t ∷ ss) = IsFencePair nest s.0 s.1 × IsBefore s.0 s.1 t.0 t.1 × AreShares nest (t ∷ ss)

-- the numbers from the first on, before the end
abbrev pub between : ℕ → ℕ → List ℕ
between first end = range_with_len first (end - first)

-- the blocks of groups: of each two of one fence, the smaller first, that are not said to share
abbrev pub group_heads : List Group → List (ℕ × ℕ) → ℕ → List Head
group_heads nest shares h = map (for_groups h) (filter (λ k. one_fence nest h k && not (is_shared shares h k)) (between h (length nest)))

-- of rules: of each two of one nonterminal, the smaller first
abbrev pub rule_heads : Grammar → ℕ → List Head
rule_heads g p = map (for_rules p) (filter (λ q. nat_eq (rule_of g p).non (rule_of g q).non) (between (suc p) (length g.rules)))

-- of cuts: of each cut of each rule
abbrev pub cut_heads : Grammar → ℕ → List Head
cut_heads g p = map (for_cut p) (between 1 (length (spread g p)))

-- what the blocks of a side are for, in order
abbrev pub heads : Grammar → List Group → List (ℕ × ℕ) → List Head
heads g nest shares =
    flat_map (group_heads nest shares) (between 0 (length nest))
    ++ (flat_map (rule_heads g) (between 0 (length g.rules)) ++ flat_map (cut_heads g) (between 0 (length g.rules)))

-- a side so far: its nest, which groups are said to share a word, and its blocks
pub record Half : Type 0 where
  pub nest : List Group
  pub shares : List (ℕ × ℕ)
  pub blocks : List Block

-- the blocks are right and in order, and more are to come
pub record IsHalf (g : Grammar) (s : Half) (more : List Head) : Type 0 where
  pub nest : IsNestOf g s.nest
  pub shares : AreShares s.nest s.shares
  pub order : map head s.blocks ++ more ≡ heads g s.nest s.shares
  pub right : (b : Block) → Contains s.blocks b → IsRight g s.nest (Shares s.shares) b

abbrev pub share_line : ℕ × ℕ → List ℕ
share_line s = spaced (codes "shared") (s.0 ∷ s.1 ∷ [])

abbrev pub half_lines : Half → Lines
half_lines s = map share_line s.shares ++ flat_map block_lines s.blocks

-- the lines up to the end of the text side, and up to that of the XML side
abbrev pub text_lines : Half → Lines
text_lines t = codes "xsugar-cert-1" ∷ codes "side text" ∷ half_lines t

abbrev pub all_lines : Half → Half → Lines
all_lines t x = text_lines t ++ codes "side xml" ∷ half_lines x

-- the bytes are a certificate of the two grammars whose blocks are all right
pub record IsCertificate (p : Pair) (bytes : List ℕ) : Type 0 where
  pub text : Half
  pub xml : Half
  pub is_text : IsHalf p.text text []
  pub is_xml : IsHalf p.xml xml []
  pub is : bytes ≡ written (all_lines text xml ++ codes "end" ∷ [])

-- the lines are a good front: they begin a certificate, end before or after a whole block, a line
-- of groups that share or of a side, and all their blocks are right
pub data Front (p : Pair) : Lines → Type 0 where
  nothing : Front p []
  version : Front p (codes "xsugar-cert-1" ∷ [])
  in_text : {ls : Lines} (t : Half) (more : List Head) → IsHalf p.text t more → ls ≡ text_lines t → Front p ls
  in_xml : {ls : Lines} (t x : Half) (more : List Head) → IsHalf p.text t [] → IsHalf p.xml x more → ls ≡ all_lines t x → Front p ls

-- the first k lines of the bytes are a good front
pub record IsGoodFront (p : Pair) (bytes : List ℕ) (k : ℕ) : Type 0 where
  pub lines : Lines
  pub rest : List ℕ
  pub front : Front p lines
  pub count : k ≡ length lines
  pub begins : bytes ≡ written lines ++ rest

-- the bytes are no certificate whose blocks are all right, and the line, counted from 1, is the first
-- after their longest good front
pub record IsBadAt (p : Pair) (bytes : List ℕ) (line : ℕ) : Type 0 where
  pub none : IsCertificate p bytes → ⊥
  pub before : ℕ
  pub is : line ≡ suc before
  pub good : IsGoodFront p bytes before
  pub greatest : (k : ℕ) → IsGoodFront p bytes k → k ≤ before
