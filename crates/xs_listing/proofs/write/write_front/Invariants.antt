use Rattle.xs_listing.specs.Writing.{work_left}
use Rattle.xs_listing.proofs.Walking.{Remains}
use Rattle.xs_listing.proofs.write.write_front.Given as goal

abbrev pub invariant-tasks : goal.invariant-tasks
invariant-tasks l = Remains l.source l.fn.front l.fn.number l.tasks.items l.written.parts.items l.written.places.items

abbrev pub decreases-tasks : goal.decreases-tasks
decreases-tasks l = work_left l.tasks.items
