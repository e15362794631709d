use Rattle.std.proofs.Common.{arith}
use Rattle.xs_coarse_net.specs.Contents.{nest_of}
use Rattle.xs_loose.proofs.Nesting.{groups_none}
use Rattle.xs_coarse_net.proofs.Contenting.{contents_all}
use Rattle.xs_coarse_net.proofs.contents.contents_of.Goals as goal

pub rules-init : goal.rules-init
rules-init c =
    let t = c.args.ground.now.site.labels.now in
    record { kept = c.requires.kept; contents = rw c.new-contents.ensures.items (groups_none c.args.ground.now.site.g.now) }

pub returns-clause-contents : goal.returns-clause-contents
returns-clause-contents c =
    let t = c.args.ground.now.site.labels.now in
    contents_all c.args.ground.now.site.g.now c.requires.ground.site.ready.built.proper c.rules.rule (nest_of t c.rules.contents.items) (omega (arith, c.rules-test.false, c.rules.auto.rule-end, c.rules-rule-end.ensures)) c.rules.invariant.contents
