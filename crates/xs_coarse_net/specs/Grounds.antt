-- What covers are made from.
use Rattle.xs_coarse_net.specs.declared.ground.Ground.{Ground}
use Rattle.xs_coarse_net.specs.Sites.{IsSite}
use Rattle.xs_coarse_net.specs.Whole.{IsWhole}

-- a site, and the net that covers all rules of its grammar
pub record IsGround (ground : Ground) : Type 0 where
  pub site : IsSite ground.site
  pub whole : IsWhole ground.site.g.now ground.site.labels.now ground.whole.now
