use Rattle.std.proofs.Common.{None}
use Rattle.xs_loose.proofs.Moving.{on_ok, item_onward, item_has_room}
use Rattle.xs_loose.proofs.site.Walk.lay_outer.Goals as goal

pub lay_item-requires-clause-room : goal.lay_item-requires-clause-room
lay_item-requires-clause-room c =
    let room = c.requires.room in
    item_has_room c.args.self.now.site.now.g.now c.requires.site.built c.args.self.now.site.now.tables.now.weights None _ c.args.item.now c.args.spot room.0 room.1 room.2 room.3 c.requires.plain (λ h. h) (rw c.in-None.is at room.4)

pub returns-in-None-clause-low : goal.returns-in-None-clause-low
returns-in-None-clause-low c = on_ok c.lay_item.result (λ t e. (rw e at c.lay_item.ensures).low)

pub returns-in-None-clause-onward : goal.returns-in-None-clause-onward
returns-in-None-clause-onward c = rw c.in-None.is (on_ok c.lay_item.result (λ t e. item_onward c.args.self.now.site.now.g.now c.requires.site.built c.args.self.now.site.now.tables.now.weights None c.args.item.now c.args.spot t c.args.into.now.net c.lay_item.new.into.net c.args.into.now.tasks.items c.lay_item.new.into.tasks.items c.requires.plain (λ h. h) (rw e at c.lay_item.ensures)))
