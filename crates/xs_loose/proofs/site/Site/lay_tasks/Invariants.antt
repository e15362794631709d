use Rattle.std.proofs.Common.{◌≡◌, []}
use Rattle.xs_auto.specs.Nets.{states}
use Rattle.xs_loose.specs.Work.{Gains, work, AreTasks}
use Rattle.xs_loose.proofs.site.Site.lay_tasks.Given as goal

abbrev pub invariant-tasks : goal.invariant-tasks
invariant-tasks l = record {
  same : states l.into.net ≡ states l.initial.into.net;
  tasks : AreTasks l.self.g.now l.self.tables.now.weights (states l.into.net) l.into.tasks.items;
  gains : Gains l.self.g.now [] l.initial.into.net l.initial.into.tasks.items l.into.net l.into.tasks.items;
}

abbrev pub decreases-tasks : goal.decreases-tasks
decreases-tasks l = work l.self.tables.now.weights l.into.tasks.items
