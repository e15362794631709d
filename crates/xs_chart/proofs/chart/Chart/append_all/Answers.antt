use Rattle.std.proofs.Common.{List, ◌∙◌, sym, subst}
use Rattle.std.specs.Prelude.{Contains}
use Rattle.xs_chart.specs.declared.item.Item.{Item}
use Rattle.xs_chart.specs.Charted.{Charted, items_of, last_set, item_from, items_from}
use Rattle.xs_chart.proofs.Sets.{last_items, items_more}
use Rattle.xs_chart.proofs.chart.Chart.append_all.Goals as goal

pub append_all-requires-clause-absent : goal.append_all-requires-clause-absent
append_all-requires-clause-absent c state among there =
    let e = c.in_ok-reopen.ensures in
    let item : Item = item_from c.args.origin state in
    c.requires.absent state among
    (subst (λ (x : Charted). Contains (items_of x (last_set x)) item) (e.same ∙ c.self.view_is)
    (subst (λ (l : List Item). Contains l item) (sym (last_items c.reopen.new.self.waiting.items e.kept e.open)) there))

pub returns-clause-last : goal.returns-clause-last
returns-clause-last c =
    let e = c.in_ok-reopen.ensures in
    let same = e.same ∙ c.self.view_is in
    rw (← same) (items_more c.reopen.new.self.waiting.items e.kept e.open (items_from c.args.origin c.args.states.now) c.append_all.new.set.keys c.in_ok-append_all.ensures.items)
