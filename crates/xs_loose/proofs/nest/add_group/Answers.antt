use Rattle.std.proofs.Common.{length}
use Rattle.std.proofs.lemmas.Result.{err_from_is_err_and}
use Rattle.xs_loose.proofs.Nesting.{groups_past, groups_more, nest_fault, group_is, group_low, partner_of}
use Rattle.xs_loose.proofs.nest.add_group.Goals as goal

pub returns-in_default-clause-nest : goal.returns-in_default-clause-nest
returns-in_default-clause-nest c = groups_past c.args.site.now.g.now c.args.rule c.args.place c.args.nest.now c.requires.place (c.at.ensures.none c.in_default.is) c.requires.nest

pub returns-in_err-content-clause-fault : goal.returns-in_err-content-clause-fault
returns-in_err-content-clause-fault c =
    let g = c.args.site.now.g.now in
    let fault = err_from_is_err_and c.from_residual.result c.from_residual.ensures.1 in
    rw (fault.1, fault.2) (nest_fault g c.requires.site.built c.args.rule c.args.place c.in-Some.fenced c.requires.rule c.in-Some.ensures.some c.args.nest.now c.requires.nest c.in_err-content.field-0.0 c.in_err-content.ensures.fault)

pub group-requires : goal.group-requires
group-requires c =
    let f = c.in-Some.fenced in
    group_low c.args.site.now.g.now c.args.rule c.args.place f.inside.end (length c.args.nest.now) c.requires.rule c.requires.site.built (partner_of c.in-Some.ensures.some) c.requires.nest.counted

pub returns-clause-nest : goal.returns-clause-nest
returns-clause-nest c =
    let g = c.args.site.now.g.now in
    let f = c.in-Some.fenced in
    let is = group_is g c.args.rule c.args.place f c.in_ok-content.content c.requires.rule c.in-Some.ensures.some c.in_ok-content.ensures.net c.in_ok-content.ensures.weight in
    groups_more g c.args.rule c.args.place f.inside.end (partner_of c.in-Some.ensures.some) c.args.nest.now c.group.new.self _ is c.in_ok-group.ensures.ok c.requires.nest
