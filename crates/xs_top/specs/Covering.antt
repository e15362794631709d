-- What is shown of the productions of a sheet.
use Rattle.std.specs.Prelude.{◌≡◌, ℕ, ◌<◌, List, length, slice_index_or}
use Rattle.xs_gram.specs.Common.{Common, print}
use Rattle.xs_cover.specs.Sizes.{size, IsReachable, IsLeast, IsLeastTree}
use Rattle.xs_pair.specs.Grammars.{Pair}
use Rattle.xs_talk.specs.declared.covers.Shown.{Shown}
use Rattle.xs_talk.specs.declared.covers.Shown.TheVariants as S
use Rattle.xs_talk.specs.Covers.{cover_text}

-- one tree that fits the start and uses the production, and than which no such tree is smaller: its size, and its words on
-- both sides
pub record IsLeastPair (p : Pair) (rule z : ℕ) (text xml : List ℕ) : Type 0 where
  pub tree : Common
  pub least : IsLeastTree p.text p.xml rule tree
  pub size_is : z ≡ size p.text p.xml tree
  pub text_is : text ≡ print p.text tree
  pub xml_is : xml ≡ print p.xml tree

-- What is shown of a production: that no tree that fits the start uses it; or the least size of a tree that does, where it
-- is above 4,096; or the words of such a tree of the least size.
abbrev pub IsShown : Pair → ℕ → Shown → Type 0
IsShown p rule S.Unreached = IsReachable p.text rule → ⊥
IsShown p rule (S.Long z) = IsLeast p.text p.xml rule z × (4096 < z)
IsShown p rule (S.Pair z text xml) = IsLeastPair p rule z text xml

-- something is shown of each production
pub record AreShown (p : Pair) (all : List Shown) : Type 0 where
  pub counted : length all ≡ length p.text.rules
  pub each : (rule : ℕ) → rule < length p.text.rules → IsShown p rule (slice_index_or all rule S.Unreached)

-- the answer has the lines of what is shown of each production
pub record IsCovered (p : Pair) (answer : List ℕ) : Type 0 where
  pub all : List Shown
  pub are : AreShown p all
  pub is : answer ≡ cover_text p.names all
