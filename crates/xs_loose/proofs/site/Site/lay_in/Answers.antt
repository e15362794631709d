use Rattle.std.proofs.Common.{ℕ, length, sym, subst, arith, Some}
use Rattle.xs_auto.specs.Nets.{states}
use Rattle.xs_gram.specs.Building.{NamesThere}
use Rattle.xs_loose.proofs.Items.{one_low}
use Rattle.xs_loose.proofs.Owning.{own_is, own_one, not_own}
use Rattle.xs_loose.proofs.Moving.{on_ok, member_grows, member_onward, member_at, item_onward, item_has_room}
use Rattle.xs_loose.proofs.site.Site.lay_in.Goals as goal

pub member_of-requires : goal.member_of-requires
member_of-requires c = (length c.args.self.now.g.now.terms, length c.args.self.now.g.now.skips, subst (λ (n : ℕ). NamesThere n (length c.args.self.now.g.now.terms) (length c.args.self.now.g.now.skips) c.args.item.now) (sym c.requires.site.comps.counted) c.requires.there)

pub entry_of-requires-clause-there : goal.entry_of-requires-clause-there
entry_of-requires-clause-there c = one_low c.args.self.now.g.now c.args.self.now.comps.now c.at.result.now c.args.item.now c.in-Some.member c.requires.there c.in-Some.ensures.some

pub entry_of-requires-clause-member : goal.entry_of-requires-clause-member
entry_of-requires-clause-member c = own_one c.args.self.now.g.now c.args.self.now.comps.now c.requires.site.comps c.args.home.non c.at.result.now c.args.item.now c.in-Some.member c.requires.home.0 c.at.ensures c.requires.there c.in-Some.ensures.some

pub lay_member-requires-clause-at : goal.lay_member-requires-clause-at
lay_member-requires-clause-at c =
    let g = c.args.self.now.g.now in
    let one = own_one g c.args.self.now.comps.now c.requires.site.comps c.args.home.non c.at.result.now c.args.item.now c.in-Some.member c.requires.home.0 c.at.ensures c.requires.there c.in-Some.ensures.some in
    let is = own_is c.args.self.now.comps.now c.at.result.now c.args.item.now c.in-Some.member c.in-Some.ensures.some in
    let room = c.requires.room in
    member_at g c.requires.site.built c.args.self.now.tables.now.weights c.args.home _ room.0 room.1 c.in-Some.member is.0 c.args.item.now room.2 c.args.spot is.1 one room.3 room.4

pub lay_member-requires-clause-exit : goal.lay_member-requires-clause-exit
lay_member-requires-clause-exit c = omega (arith, c.entry_of.ensures.exit (states c.args.into.now.net) c.requires.home)

pub lay_item-requires-clause-room : goal.lay_item-requires-clause-room
lay_item-requires-clause-room c =
    let g = c.args.self.now.g.now in
    let out = not_own g c.args.self.now.comps.now c.requires.site.comps c.args.home c.at.result.now c.args.item.now c.requires.home.0 c.at.ensures c.requires.there c.in-None.ensures.none in
    let room = c.requires.room in
    item_has_room g c.requires.site.built c.args.self.now.tables.now.weights (Some c.args.home) _ c.args.item.now c.args.spot room.0 room.1 room.2 room.3 c.requires.plain out room.4

pub returns-in-Some-clause-low : goal.returns-in-Some-clause-low
returns-in-Some-clause-low c =
    let g = c.args.self.now.g.now in
    let one = own_one g c.args.self.now.comps.now c.requires.site.comps c.args.home.non c.at.result.now c.args.item.now c.in-Some.member c.requires.home.0 c.at.ensures c.requires.there c.in-Some.ensures.some in
    let is = own_is c.args.self.now.comps.now c.at.result.now c.args.item.now c.in-Some.member c.in-Some.ensures.some in
    let room = c.requires.room in
    let low = member_at g c.requires.site.built c.args.self.now.tables.now.weights c.args.home _ room.0 room.1 c.in-Some.member is.0 c.args.item.now room.2 c.args.spot is.1 one room.3 room.4 in
    on_ok c.lay_member.result (λ t e. omega (arith, low, rw e at c.lay_member.ensures.before))

pub returns-in-Some-clause-onward : goal.returns-in-Some-clause-onward
returns-in-Some-clause-onward c =
    let g = c.args.self.now.g.now in
    let one = own_one g c.args.self.now.comps.now c.requires.site.comps c.args.home.non c.at.result.now c.args.item.now c.in-Some.member c.requires.home.0 c.at.ensures c.requires.there c.in-Some.ensures.some in
    let is = own_is c.args.self.now.comps.now c.at.result.now c.args.item.now c.in-Some.member c.in-Some.ensures.some in
    on_ok c.lay_member.result (λ t e. member_onward g c.requires.site.built c.args.self.now.tables.now.weights c.args.home c.args.item.now c.in-Some.member is.0 c.args.spot t c.args.into.now.net c.lay_member.new.net c.args.into.now.tasks.items is.1 one (rw e at c.lay_member.ensures.before) (rw e at c.lay_member.ensures.at) (λ j members. member_grows c.args.home.first c.entry_of.result j c.args.spot c.args.into.now.net c.lay_member.new.net (c.entry_of.ensures.entry j members) (rw e at c.lay_member.ensures.grows)))

pub returns-in-None-clause-low : goal.returns-in-None-clause-low
returns-in-None-clause-low c = on_ok c.lay_item.result (λ t e. (rw e at c.lay_item.ensures).low)

pub returns-in-None-clause-onward : goal.returns-in-None-clause-onward
returns-in-None-clause-onward c =
    let g = c.args.self.now.g.now in
    let out = not_own g c.args.self.now.comps.now c.requires.site.comps c.args.home c.at.result.now c.args.item.now c.requires.home.0 c.at.ensures c.requires.there c.in-None.ensures.none in
    on_ok c.lay_item.result (λ t e. item_onward g c.requires.site.built c.args.self.now.tables.now.weights (Some c.args.home) c.args.item.now c.args.spot t c.args.into.now.net c.lay_item.new.into.net c.args.into.now.tasks.items c.lay_item.new.into.tasks.items c.requires.plain out (rw e at c.lay_item.ensures))
