-- What the covers of a grammar are.
use Rattle.xs_gram.specs.Grammar.{Grammar}
use Rattle.xs_coarse.specs.Coarse.{Table}
use Rattle.xs_coarse.specs.Covers.{CoversGroups}
use Rattle.xs_coarse_net.specs.declared.cover.Covers.{Covers}
use Rattle.xs_coarse_net.specs.Contents.{nest_of}
use Rattle.xs_coarse_net.specs.Joining.{AreFragments}
use Rattle.xs_coarse_net.specs.Leaves.{AreLeaves}
use Rattle.xs_coarse_net.specs.Whole.{IsWhole}

pub record IsCovers (g : Grammar) (t : Table) (c : Covers) : Type 0 where
  pub whole : IsWhole g t c.whole
  pub leaves : AreLeaves g t c.leaves
  pub groups : CoversGroups g (nest_of t c.contents.items)
  pub fragments : AreFragments g t c.kept.items
