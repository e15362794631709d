use Rattle.std.proofs.Common.{length, ap, arith}
use Rattle.xs_coarse_net.specs.Contents.{nest_of}
use Rattle.xs_loose.proofs.Nesting.{groups_next}
use Rattle.xs_coarse_net.proofs.contents.add_contents.Goals as goal

pub returns-clause-contents : goal.returns-clause-contents
returns-clause-contents c =
    let t = c.args.ground.now.site.labels.now in
    groups_next c.args.ground.now.site.g.now c.args.rule c.items.place (nest_of t c.items.contents.items) (omega (arith, c.items-test.false, ap length c.spread.ensures.items)) c.items.invariant.contents
