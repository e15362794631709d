use Rattle.xs_coarse_net.specs.Contents.{nest_of, HasContentsBefore}
use Rattle.xs_coarse_net.specs.Joining.{AreFragments}
use Rattle.xs_coarse_net.proofs.contents.add_contents.Given as goal

abbrev pub invariant-items : goal.invariant-items
invariant-items l = record {
  kept : AreFragments l.ground.site.g.now l.ground.site.labels.now l.kept.items;
  contents : HasContentsBefore l.ground.site.g.now l.rule l.place (nest_of l.ground.site.labels.now l.contents.items);
}
