use Rattle.xs_talk.proofs.Ending.{steps_left}
use Rattle.xs_talk.proofs.Walking.{Remains}
use Rattle.xs_talk.proofs.walk.tree_line.Given as goal

abbrev pub invariant-tasks : goal.invariant-tasks
invariant-tasks l = Remains l.two l.doc l.tree l.tasks.items l.out

abbrev pub decreases-tasks : goal.decreases-tasks
decreases-tasks l = steps_left l.two l.tree l.tasks.items
