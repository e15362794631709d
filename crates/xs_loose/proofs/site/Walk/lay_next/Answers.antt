use Rattle.std.proofs.Common.{arith}
use Rattle.xs_auto.specs.Nets.{states}
use Rattle.xs_gram.specs.Fences.{spread}
use Rattle.xs_loose.proofs.Going.{group_room, group_stepped, item_room, item_stepped}
use Rattle.xs_loose.proofs.Items.{item_there}
use Rattle.xs_loose.proofs.Stepping.{read_there}
use Rattle.xs_loose.proofs.site.Walk.lay_next.Goals as goal

pub lay_group-requires-clause-room : goal.lay_group-requires-clause-room
lay_group-requires-clause-room c =
    let room = c.requires.room in
    group_room c.args.self.now.site.now.g.now c.requires.site.built c.args.self.now.home (states c.args.into.now.net) c.args.rule c.args.place c.in-Some.partner room.0 c.args.spot c.in-Some.ensures.some room.1 room.2

pub lay_outer-requires-clause-there : goal.lay_outer-requires-clause-there
lay_outer-requires-clause-there c = item_there c.args.self.now.site.now.g.now c.requires.site.built.range c.args.rule c.args.place c.spread.result.now c.index-spread-place.result c.spread.ensures.items c.requires.place c.index-spread-place.is

pub lay_outer-requires-clause-plain : goal.lay_outer-requires-clause-plain
lay_outer-requires-clause-plain c =
    let room = c.requires.room in
    let is = read_there (spread c.args.self.now.site.now.g.now c.args.rule) c.spread.result.now c.args.place c.index-spread-place.result c.spread.ensures.items c.index-spread-place.is in
    (item_room c.args.self.now.site.now.g.now c.requires.site.built c.args.self.now.home (states c.args.into.now.net) c.args.rule c.args.place room.0 c.index-spread-place.result c.args.spot c.requires.place is (c.partner.ensures.none.0 c.in-None.is) room.1 room.2).0

pub lay_outer-requires-clause-room : goal.lay_outer-requires-clause-room
lay_outer-requires-clause-room c =
    let room = c.requires.room in
    let is = read_there (spread c.args.self.now.site.now.g.now c.args.rule) c.spread.result.now c.args.place c.index-spread-place.result c.spread.ensures.items c.index-spread-place.is in
    (item_room c.args.self.now.site.now.g.now c.requires.site.built c.args.self.now.home (states c.args.into.now.net) c.args.rule c.args.place room.0 c.index-spread-place.result c.args.spot c.requires.place is (c.partner.ensures.none.0 c.in-None.is) room.1 room.2).1

pub returns-in_ok-lay_group-in-Some-clause-low : goal.returns-in_ok-lay_group-in-Some-clause-low
returns-in_ok-lay_group-in-Some-clause-low c =
    let room = c.requires.room in
    let low = group_room c.args.self.now.site.now.g.now c.requires.site.built c.args.self.now.home (states c.args.into.now.net) c.args.rule c.args.place c.in-Some.partner room.0 c.args.spot c.in-Some.ensures.some room.1 room.2 in
    omega (arith, low, c.in_ok-lay_group-in-Some.ensures.before)

pub returns-in_ok-lay_group-in-Some-clause-stepped : goal.returns-in_ok-lay_group-in-Some-clause-stepped
returns-in_ok-lay_group-in-Some-clause-stepped c = λ items all after end at lays.
    group_stepped c.args.self.now.site.now.g.now c.requires.site.built c.args.self.now.site.now.tables.now.weights c.args.self.now.home c.args.rule c.args.place c.in-Some.partner c.args.number items c.args.spot c.in_ok-lay_group-in-Some.field-0 all after end c.args.into.now.net c.lay_group.new.net c.args.into.now.tasks.items c.in-Some.ensures.some c.requires.number c.in_ok-lay_group-in-Some.ensures.before c.in_ok-lay_group-in-Some.ensures.at c.in_ok-lay_group-in-Some.ensures.grows at lays

pub returns-in_ok-lay_outer-in-None-clause-stepped : goal.returns-in_ok-lay_outer-in-None-clause-stepped
returns-in_ok-lay_outer-in-None-clause-stepped c = λ items all after end at lays.
    let is = read_there (spread c.args.self.now.site.now.g.now c.args.rule) c.spread.result.now c.args.place c.index-spread-place.result c.spread.ensures.items c.index-spread-place.is in
    item_stepped c.args.self.now.site.now.g.now c.requires.site.built c.args.self.now.site.now.tables.now.weights c.args.self.now.home c.args.rule c.args.place items c.index-spread-place.result c.args.spot c.in_ok-lay_outer-in-None.field-0 all after end c.args.into.now.net c.lay_outer.new.into.net c.args.into.now.tasks.items c.lay_outer.new.into.tasks.items c.requires.place is (c.partner.ensures.none.0 c.in-None.is) c.in_ok-lay_outer-in-None.ensures.onward at lays
