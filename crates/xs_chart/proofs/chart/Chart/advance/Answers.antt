use Rattle.std.proofs.Common.{◌≡◌, List, length, sym, ◌∙◌, ap, subst}
use Rattle.std.specs.Prelude.{Contains}
use Rattle.xs_chart.specs.declared.item.Item.{Item}
use Rattle.xs_chart.specs.Charted.{items_of, last_set}
use Rattle.xs_chart.specs.Kept.{seen, IsKept}
use Rattle.xs_chart.proofs.Sets.{last_is, last_items, earlier_set, items_more}
use Rattle.xs_chart.proofs.chart.Chart.advance.Goals as goal

pub add_after-requires-clause-there : goal.add_after-requires-clause-there
add_after-requires-clause-there c =
    let e = c.in_ok-reopen.ensures in
    let is = earlier_set c.reopen.new.self.waiting.items e.kept e.open (e.same ∙ c.self.view_is) c.args.from c.args.non c.requires.from in
    rw (c.list.ensures, c.list-waits.ensures, ← c.find_again-first.ensures.is, ← is.0, ← is.1) c.requires.there

pub returns-clause-advanced : goal.returns-clause-advanced
returns-clause-advanced c =
    let r = c.reopen.new.self in
    let e = c.in_ok-reopen.ensures in
    let same = e.same ∙ c.self.view_is in
    let is = earlier_set r.waiting.items e.kept e.open same c.args.from c.args.non c.requires.from in
    let m = rw (c.list.ensures, c.list-waits.ensures, ← c.find_again-first.ensures.is, ← is.0, ← is.1) at c.in_ok-add_after.ensures.more in
    let end : last_set c.args.self.now ≡ length r.items = ap last_set (sym same) ∙ last_is r.waiting.items e.kept e.open in
    let kept : IsKept r.is_open r.items c.add_after.new.set.keys r.waits = record { counted = e.kept.counted; paired = e.kept.paired; different = e.kept.different; last_different = c.add_after.ensures.different; grouped = e.kept.grouped } in
    let own = ap (items_of (seen r.is_open r.items c.add_after.new.set.keys r.waits r.waiting.items)) (end ∙ sym (last_is r.waiting.items kept e.open)) ∙ last_items r.waiting.items kept e.open in
    record {
      more = m.more;
      is = rw (← same) (items_more r.waiting.items e.kept e.open m.more c.add_after.new.set.keys m.is);
      each = m.each;
      there = λ item h. subst (λ (l : List Item). Contains l item) (sym own) (m.there item h);
    }
