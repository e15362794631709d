use Rattle.std.proofs.Common.{ℕ, ◌+◌, subst, arith}
use Rattle.xs_gram.specs.Fences.{spread}
use Rattle.xs_loose.proofs.Items.{item_there}
use Rattle.xs_loose.proofs.Numbering.{left_counts, number_low}
use Rattle.xs_loose.proofs.Stepping.{read_there}
use Rattle.xs_coarse_net.specs.Whole.{ItemLaid}
use Rattle.xs_coarse_net.proofs.Places.{place_enclosed, place_group, place_item}
use Rattle.xs_coarse_net.proofs.rule.lay_place.Goals as goal

pub returns-then-is_enclosed-clause-laid : goal.returns-then-is_enclosed-clause-laid
returns-then-is_enclosed-clause-laid c = place_enclosed c.args.site.now.g.now c.args.site.now.labels.now c.args.draft.now c.args.rule c.args.place (c.is_enclosed.ensures c.if-is_enclosed.true)

pub lay_item-requires-clause-there : goal.lay_item-requires-clause-there
lay_item-requires-clause-there c = item_there c.args.site.now.g.now c.requires.site.ready.built.range c.args.rule c.args.place c.spread.result.now c.index-spread-place.result c.spread.ensures.items c.requires.place c.index-spread-place.is

pub label_of_group-requires-clause-there : goal.label_of_group-requires-clause-there
label_of_group-requires-clause-there c =
    let g = c.args.site.now.g.now in
    omega (arith, c.requires.number, left_counts g.fences (spread g c.args.rule) c.args.place c.in-Some.partner c.in-Some.ensures.some, number_low g c.args.rule (c.args.place + 1) c.requires.rule)

pub returns-in_ok-add-in-Some-clause-laid : goal.returns-in_ok-add-in-Some-clause-laid
returns-in_ok-add-in-Some-clause-laid c = place_group c.args.site.now.g.now c.args.site.now.labels.now _ c.args.rule c.args.place c.in-Some.partner c.in_ok-from.from c.in_ok-to-in-Some.to c.spread.ensures.proper c.in-Some.ensures.some c.in_ok-from.ensures c.in_ok-to-in-Some.ensures (rw (c.label_of_group.ensures, c.requires.number) at c.in_ok-add-in-Some.ensures.there)

pub returns-in_ok-lay_item-in-None-clause-laid : goal.returns-in_ok-lay_item-in-None-clause-laid
returns-in_ok-lay_item-in-None-clause-laid c =
    let g = c.args.site.now.g.now in
    let is = read_there (spread g c.args.rule) c.spread.result.now c.args.place c.index-spread-place.result c.spread.ensures.items c.index-spread-place.is in
    let laid = subst (λ (own : ℕ). ItemLaid g c.args.site.now.labels.now c.lay_item.new.draft own c.index-spread-place.result c.in_ok-from.from c.in_ok-to-in-None.to) c.non_of-own.ensures c.in_ok-lay_item-in-None.ensures.laid in
    place_item g c.args.site.now.labels.now _ c.args.rule c.args.place c.in_ok-from.from c.in_ok-to-in-None.to c.index-spread-place.result c.requires.place is (c.partner.ensures.none.0 c.in-None.is) c.in_ok-from.ensures c.in_ok-to-in-None.ensures laid
