-- The certificate that is written of two grammars: exactly the groups that share a word, and the
-- least sets.
use Rattle.std.specs.Prelude.{◌↔◌, ℕ, Bool, List}
use Rattle.std.specs.List.{Contains}
use Rattle.xs_auto.specs.Nests.{AreShared}
use Rattle.xs_pair.specs.Grammars.{Pair}
use Rattle.xs_meet.specs.Closed.{Marked, IsApart, IsClear}
use Rattle.xs_closed.specs.Laws.{IsWithin}
use Rattle.xs_cert_laws.specs.Blocks.{Block, of_groups, of_rules, of_cut, Pairs}
use Rattle.xs_cert_laws.specs.Certificates.{Half, Shares, IsCertificate}

-- the sets of the block are within all that are right for its nets
abbrev pub IsLeast : (ℕ → ℕ → Type 0) → Block → Type 0
IsLeast R (of_groups h k m n z) = (y : ℕ → ℕ → Bool) → IsApart R m n (Marked y) → IsWithin (Pairs z) (Marked y)
IsLeast R (of_rules p q m n z) = (y : ℕ → ℕ → Bool) → IsApart R m n (Marked y) → IsWithin (Pairs z) (Marked y)
IsLeast R (of_cut p c f e z1 z0 z2 z3) =
    (y1 y0 y2 y3 : ℕ → ℕ → Bool) → IsClear R f e (Marked y1) (Marked y0) (Marked y2) (Marked y3)
    → IsWithin (Pairs z1) (Marked y1) × IsWithin (Pairs z0) (Marked y0) × IsWithin (Pairs z2) (Marked y2) × IsWithin (Pairs z3) (Marked y3)

-- the groups that are said to share a word are those that do, and the sets are least
pub record IsExact (s : Half) : Type 0 where
  pub shares : (h k : ℕ) → Shares s.shares h k ↔ AreShared s.nest h k
  pub least : (b : Block) → Contains s.blocks b → IsLeast (Shares s.shares) b

-- the certificate of two grammars that is written
pub record IsProof (p : Pair) (bytes : List ℕ) : Type 0 where
  pub is : IsCertificate p bytes
  pub text : IsExact is.text
  pub xml : IsExact is.xml
