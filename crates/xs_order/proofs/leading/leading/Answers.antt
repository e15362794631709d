use Rattle.std.proofs.Common.{length, refl}
use Rattle.std.proofs.lemmas.Option.{slice_get_read}
use Rattle.xs_order.proofs.Leads.{lead_all, lead_none, lead_one}
use Rattle.xs_order.proofs.leading.leading.Goals as goal

pub returns-then-first-items : goal.returns-then-first-items
returns-then-first-items c = lead_all c.args.g.now c.args.nulls.now c.args.items.now c.first_full-first.result c.in_ok-all.all c.first_full-first.ensures c.if-first-items.true c.in_ok-all.ensures

pub returns-then-first_full-items : goal.returns-then-first_full-items
returns-then-first_full-items c = λ m. rw c.new-targets.ensures (lead_none c.args.g.now c.args.nulls.now c.args.items.now c.first_full-first.result c.first_full.result c.first_full-first.ensures c.if-first-items.false c.first_full.ensures c.if-first_full-items.true m)

pub returns : goal.returns
returns c =
    let item = slice_get_read c.args.items.now (length c.args.items.now) c.first_full-first.result c.index-items-first.result refl c.if-first-items.false c.index-items-first.is in
    lead_one c.args.g.now c.args.nulls.now c.args.items.now c.first_full-first.result c.first_full.result c.index-items-first.result c.add_non.new.nons c.first_full-first.ensures c.if-first-items.false c.first_full.ensures c.if-first_full-items.false item (rw c.new-targets.ensures at c.in_ok-add_non.ensures)
