use Rattle.std.proofs.Common.{ℕ, subst, sym, ◌∙◌}
use Rattle.xs_auto.specs.Nets.{states}
use Rattle.xs_loose.specs.Work.{AreTasks}
use Rattle.xs_loose.proofs.Finishing.{gains_popped, less_work}
use Rattle.xs_loose.proofs.Gaining.{tasks_before}
use Rattle.xs_loose.proofs.Growing.{grows_then}
use Rattle.xs_loose.proofs.site.Site.lay_tasks.Goals as goal

pub lay_component-requires-clause-task : goal.lay_component-requires-clause-task
lay_component-requires-clause-task c = (tasks_before c.args.self.now.g.now c.args.self.now.tables.now.weights (states c.tasks.into.net) c.tasks.into.tasks.items c.pop.new.self.items c.in-Some.task c.in-Some.ensures.items c.tasks.invariant.tasks).1

pub tasks-smaller : goal.tasks-smaller
tasks-smaller c = less_work c.args.self.now.g.now c.args.self.now.tables.now.weights c.requires.site.built.proper.once c.tasks.into.net c.lay_component.new.into.net c.tasks.into.tasks.items c.pop.new.self.items c.lay_component.new.into.tasks.items c.in-Some.task c.in-Some.ensures.items c.in_ok-lay_component.ensures

pub tasks-preserved : goal.tasks-preserved
tasks-preserved c =
    let g = c.args.self.now.g.now in
    let weights = c.args.self.now.tables.now.weights in
    let done = c.in_ok-lay_component.ensures in
    let before = (tasks_before g weights (states c.tasks.into.net) c.tasks.into.tasks.items c.pop.new.self.items c.in-Some.task c.in-Some.ensures.items c.tasks.invariant.tasks).0 in
    record {
      same = done.gains.states ∙ c.tasks.invariant.same;
      tasks = subst (λ (n : ℕ). AreTasks g weights n c.lay_component.new.into.tasks.items) (sym done.gains.states) (done.tasks before);
      gains = grows_then c.tasks.invariant.gains (gains_popped g weights c.requires.site.built.proper.once c.tasks.into.net c.lay_component.new.into.net c.tasks.into.tasks.items c.pop.new.self.items c.lay_component.new.into.tasks.items c.in-Some.task c.in-Some.ensures.items done);
    }
