use Rattle.xs_loose.proofs.Nesting.{groups_past, partner_of}
use Rattle.xs_coarse_net.specs.declared.cover.Content.{Content}
use Rattle.xs_coarse_net.specs.Contents.{nest_of}
use Rattle.xs_coarse_net.proofs.Contenting.{contents_push, content_is}
use Rattle.xs_coarse_net.proofs.contents.add_content.Goals as goal

pub returns-in_default-clause-contents : goal.returns-in_default-clause-contents
returns-in_default-clause-contents c =
    let t = c.args.ground.now.site.labels.now in
    groups_past c.args.ground.now.site.g.now c.args.rule c.args.place (nest_of t c.args.contents.now.items) c.requires.place (c.at.ensures.none c.in_default.is) c.requires.contents

pub cover_part-requires-clause-part : goal.cover_part-requires-clause-part
cover_part-requires-clause-part c = c.in-Some.ensures.some.part

pub returns-clause-contents : goal.returns-clause-contents
returns-clause-contents c =
    let g = c.args.ground.now.site.g.now in
    let t = c.args.ground.now.site.labels.now in
    let f = c.in-Some.fenced in
    let content : Content = record { left = f.left; right = f.right; cover = c.in_ok-cover.cover } in
    let is = content_is g t c.requires.ground.site.ready.labels.unfenced c.args.rule c.args.place f c.in_ok-cover.cover c.requires.rule c.in-Some.ensures.some c.in_ok-cover.ensures.cover in
    contents_push g t c.args.rule c.args.place f.inside.end (partner_of c.in-Some.ensures.some) c.args.contents.now.items _ content is c.in_ok-push.ensures.items c.requires.contents
