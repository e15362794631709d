use Rattle.xs_gram.specs.Fences.{spread}
use Rattle.xs_loose.proofs.Items.{item_there, outer_under}
use Rattle.xs_loose.proofs.Stepping.{body_group_step, body_item_step, last_first, last_outer, read_there}
use Rattle.xs_loose.proofs.weighing.body_step.Goals as goal

pub item_count-requires-clause-there : goal.item_count-requires-clause-there
item_count-requires-clause-there c = item_there c.args.g.now c.requires.built.range c.args.rule c.args.place c.spread.result.now c.index-spread-place.result c.spread.ensures.items c.requires.place c.index-spread-place.is

pub item_count-requires-clause-under : goal.item_count-requires-clause-under
item_count-requires-clause-under c =
    let g = c.args.g.now in
    let i = c.index-spread-place.result in
    let is = read_there (spread g c.args.rule) c.spread.result.now c.args.place i c.spread.ensures.items c.index-spread-place.is in
    let rest = c.requires.stands.0 in
    let first = last_first g c.args.rule c.args.place rest i c.requires.place is (c.partner.ensures.none.0 c.in-None.is) c.requires.stands.1 in
    outer_under g c.args.comps.now c.requires.built.range c.requires.comps c.args.component c.args.rule c.args.place i c.requires.rule (last_outer g c.args.rule c.args.place rest i c.requires.stands.1 first)

pub returns-in-Some : goal.returns-in-Some
returns-in-Some c = λ rest last. body_group_step c.args.g.now c.args.comps.now c.args.component c.args.rule c.args.place c.in-Some.partner rest c.spread.ensures.proper c.in-Some.ensures.some last

pub returns-in-None : goal.returns-in-None
returns-in-None c = λ rest last.
    let g = c.args.g.now in
    let i = c.index-spread-place.result in
    let is = read_there (spread g c.args.rule) c.spread.result.now c.args.place i c.spread.ensures.items c.index-spread-place.is in
    body_item_step g c.args.comps.now c.args.component c.args.rule c.args.place c.item_count.result rest i c.requires.place is (c.partner.ensures.none.0 c.in-None.is) c.item_count.ensures last
