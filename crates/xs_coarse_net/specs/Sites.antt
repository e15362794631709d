-- A grammar with its labels and the nets of its terminals and ignorables, and how it is numbered.
use Rattle.std.specs.Prelude.{ℕ, List, length}
use Rattle.xs_gram.specs.Grammar.{Grammar}
use Rattle.xs_gram.specs.Sound.{IsBuilt}
use Rattle.xs_loose.specs.Tables.{AreNumbersBefore}
use Rattle.xs_coarse.specs.Coarse.{Table}
use Rattle.xs_coarse.specs.Labels.{IsLabelsOf}
use Rattle.xs_coarse_net.specs.declared.site.Site.{Site}
use Rattle.xs_coarse_net.specs.Leaves.{AreLeaves}

-- the grammar is built, the labels are its own, and its groups are numbered
pub record IsReady (g : Grammar) (t : Table) (numbers : List ℕ) : Type 0 where
  pub built : IsBuilt g
  pub labels : IsLabelsOf g t
  pub groups : AreNumbersBefore g (length g.rules) numbers

-- so it is, and the nets are those of its terminals and ignorables
pub record IsSite (site : Site) : Type 0 where
  pub ready : IsReady site.g.now site.labels.now site.groups.now
  pub leaves : AreLeaves site.g.now site.labels.now site.leaves.now
