use Rattle.xs_coarse_net.specs.Joining.{AreFragments}
use Rattle.xs_coarse_net.proofs.room.room_for.Given as goal

abbrev pub invariant-items : goal.invariant-items
invariant-items l = AreFragments l.ground.site.g.now l.ground.site.labels.now l.kept.items
