-- How the bytes of a certificate, or of a good front of one, may go on from a place.
use Rattle.std.specs.Prelude.{◌≡◌, ◌⊎◌, ℕ, suc, ◌+◌, ◌≤◌, List, [], ◌∷◌, ◌++◌, length, map, drop, codes}
use Rattle.xs_auto.specs.Nests.{Group}
use Rattle.xs_gram.specs.Grammar.{Grammar}
use Rattle.xs_loose.specs.Nets.{IsNestOf}
use Rattle.xs_cert_lines.specs.Lines.{Lines, written}
use Rattle.xs_cert_laws.specs.Blocks.{Head, Block, head, IsRight, block_lines}
use Rattle.xs_cert_laws.specs.Certificates.{AreShares, Shares, heads, share_line}
use Rattle.xs_cert.specs.declared.place.Place.{Place}

-- W says which lines may come, with the bytes after them and a number that they count. At the place
-- stand such lines, and count j.
pub record Ahead (bytes : List ℕ) (at : ℕ) (W : Lines → List ℕ → ℕ → Type 0) (j : ℕ) : Type 0 where
  pub lines : Lines
  pub rest : List ℕ
  pub way : W lines rest j
  pub is : drop at bytes ≡ written lines ++ rest

-- what comes at place p by V ends by place q, or goes on from there by W
abbrev pub LeadsTo : List ℕ → Place → (Lines → List ℕ → ℕ → Type 0) → Place → (Lines → List ℕ → ℕ → Type 0) → Type 0
LeadsTo bytes p V q W = (j : ℕ) → Ahead bytes p.byte V j → (p.lines + j ≤ q.lines) ⊎ ((i : ℕ) × (p.lines + j ≡ q.lines + i) × Ahead bytes q.byte W i)

-- what comes at place p by W has ended after that many lines
abbrev pub EndsBy : List ℕ → Place → (Lines → List ℕ → ℕ → Type 0) → ℕ → Type 0
EndsBy bytes p W most = (j : ℕ) → Ahead bytes p.byte W j → p.lines + j ≤ most

-- a line, and then what W says
pub record Begins (line : List ℕ) (W : Lines → List ℕ → ℕ → Type 0) (ls : Lines) (rest : List ℕ) (j : ℕ) : Type 0 where
  pub later : Lines
  pub count : ℕ
  pub way : W later rest count
  pub is : ls ≡ line ∷ later
  pub counts : j ≡ suc count

-- nothing, or that
abbrev pub AfterLine : List ℕ → (Lines → List ℕ → ℕ → Type 0) → Lines → List ℕ → ℕ → Type 0
AfterLine line W ls rest j = ((ls ≡ []) × (j ≡ 0)) ⊎ Begins line W ls rest j

-- right blocks for these heads, in order, and then what T says; or an end before any of them
pub data BlockWays (g : Grammar) (nest : List Group) (R : ℕ → ℕ → Type 0) (T : Lines → List ℕ → ℕ → Type 0) : List Head → Lines → List ℕ → ℕ → Type 0 where
  ends_here : {hs : List Head} {rest : List ℕ} → BlockWays g nest R T hs [] rest 0
  block_then : {h : Head} {hs : List Head} {ls all : Lines} {rest : List ℕ} {j n : ℕ} (b : Block) → IsRight g nest R b → head b ≡ h → BlockWays g nest R T hs ls rest j → all ≡ block_lines b ++ ls → n ≡ length (block_lines b) + j → BlockWays g nest R T (h ∷ hs) all rest n
  goes_past : {ls : Lines} {rest : List ℕ} {j : ℕ} → T ls rest j → BlockWays g nest R T [] ls rest j

-- a side, or the front of one, and then what T says
pub record HalfWays (g : Grammar) (T : Lines → List ℕ → ℕ → Type 0) (ls : Lines) (rest : List ℕ) (j : ℕ) : Type 0 where
  pub nest : List Group
  pub shares : List (ℕ × ℕ)
  pub later : Lines
  pub count : ℕ
  pub is_nest : IsNestOf g nest
  pub ordered : AreShares nest shares
  pub way : BlockWays g nest (Shares shares) T (heads g nest shares) later rest count
  pub is : ls ≡ map share_line shares ++ later
  pub counts : j ≡ length shares + count

-- what comes after a side: the end, or the XML side of this grammar
pub data Tail : Type 0 where
  at_end : Tail
  at_xml : Grammar → Tail

-- the last line and nothing more, which may count anything, so that no bound is on it
abbrev pub EndWays : Lines → List ℕ → ℕ → Type 0
EndWays ls rest j = (ls ≡ codes "end" ∷ []) × (rest ≡ [])

abbrev pub TailWays : Tail → Lines → List ℕ → ℕ → Type 0
TailWays at_end = EndWays
TailWays (at_xml g) = AfterLine (codes "side xml") (HalfWays g EndWays)
