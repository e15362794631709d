use Rattle.std.proofs.Common.{◌∙◌}
use Rattle.xs_chart.proofs.Sets.{last_items, item_more}
use Rattle.xs_chart.proofs.chart.Chart.add.Goals as goal

pub returns-clause-added : goal.returns-clause-added
returns-clause-added c =
    let e = c.in_ok-reopen.ensures in
    let same = e.same ∙ c.self.view_is in
    rw (← same, last_items c.reopen.new.self.waiting.items e.kept e.open) c.in_ok-added.ensures.added

pub returns-clause-last : goal.returns-clause-last
returns-clause-last c =
    let e = c.in_ok-reopen.ensures in
    let same = e.same ∙ c.self.view_is in
    rw (← same) (item_more c.reopen.new.self.waiting.items e.kept e.open c.args.item c.add.new.set.keys c.in_ok-added.added c.in_ok-added.ensures.items)
