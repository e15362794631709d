use Rattle.xs_coarse_net.specs.Contents.{nest_of, HasContentsBefore}
use Rattle.xs_coarse_net.specs.Joining.{AreFragments}
use Rattle.xs_coarse_net.proofs.contents.contents_of.Given as goal

abbrev pub invariant-rules : goal.invariant-rules
invariant-rules l = record {
  kept : AreFragments l.ground.site.g.now l.ground.site.labels.now l.kept.items;
  contents : HasContentsBefore l.ground.site.g.now l.rule 0 (nest_of l.ground.site.labels.now l.contents.items);
}
