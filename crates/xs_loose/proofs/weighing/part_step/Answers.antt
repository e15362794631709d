use Rattle.xs_loose.proofs.Items.{item_there, weight_there}
use Rattle.xs_loose.proofs.Stepping.{part_group_step, part_item_step, read_there}
use Rattle.xs_gram.specs.Fences.{spread}
use Rattle.xs_loose.proofs.weighing.part_step.Goals as goal

pub item_weight-requires-clause-there : goal.item_weight-requires-clause-there
item_weight-requires-clause-there c = item_there c.args.g.now c.requires.built.range c.args.rule c.args.place c.spread.result.now c.index-spread-place.result c.spread.ensures.items c.requires.place c.index-spread-place.is

pub item_weight-requires-clause-weight : goal.item_weight-requires-clause-weight
item_weight-requires-clause-weight c = weight_there c.args.g.now c.args.weights.now c.index-spread-place.result c.requires.weights (item_there c.args.g.now c.requires.built.range c.args.rule c.args.place c.spread.result.now c.index-spread-place.result c.spread.ensures.items c.requires.place c.index-spread-place.is)

pub returns-in-Some : goal.returns-in-Some
returns-in-Some c = λ rest at. part_group_step c.args.g.now c.args.rule c.args.place c.in-Some.partner rest c.spread.ensures.proper c.in-Some.ensures.some at

pub returns-in-None : goal.returns-in-None
returns-in-None c = λ rest at.
    let is = read_there (spread c.args.g.now c.args.rule) c.spread.result.now c.args.place c.index-spread-place.result c.spread.ensures.items c.index-spread-place.is in
    part_item_step c.args.g.now c.args.rule c.args.place c.item_weight.result rest c.index-spread-place.result c.requires.place is (c.partner.ensures.none.0 c.in-None.is) c.item_weight.ensures at
