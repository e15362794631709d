use Rattle.std.proofs.Common.{◌+◌, ◌*◌}
use Rattle.xs_loose.proofs.Placing.{RulesPlaced}
use Rattle.xs_loose.proofs.site.Site.lay_component.Given as goal

abbrev pub invariant-rules : goal.invariant-rules
invariant-rules l = RulesPlaced l.self.g.now l.self.tables.now.weights l.rules l.home l.rule-index (l.fn.task.at + 2 * l.members) l.place l.initial.into.net l.initial.into.tasks.items l.into.net l.into.tasks.items
