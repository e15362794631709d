use Rattle.std.proofs.Common.{◌≡◌, ◌<◌, ◌++◌, ◌∷◌, [], ℕ, List, All, sym, subst}
use Rattle.std.specs.Prelude.{slice_index_or}
use Rattle.xs_listing.specs.declared.write.Source.{Source}
use Rattle.xs_listing.specs.declared.write.Task.{Task}
use Rattle.xs_listing.specs.declared.write.Task.TheVariants.{Visit}
use Rattle.xs_listing.specs.Writing.{IsSource, IsVisited, CanDo, work_left}
use Rattle.xs_listing.specs.Owed.{IsCountedOff}
use Rattle.xs_listing.proofs.Sizing.{visited_can}
use Rattle.xs_listing.proofs.Owing.{first_off, visit_off}
use Rattle.xs_listing.proofs.Ending.{gone_less, visited_less}
use Rattle.xs_listing.proofs.sizes.count_task.Goals as goal

-- what is known where the task is a visit that was made
module _ (s : Source) (is : IsSource s) (task : Task) (row number : ℕ) (old new : List Task) (task_is : task ≡ Visit row number) (can : CanDo s task 0) (visited : IsVisited s.forest.now s.cap s.counts.now row number 0 old new) where
  can_visit : CanDo s (Visit row number) 0
  can_visit = subst (λ (t : Task). CanDo s t 0) task_is can

  all_can : All (λ t. CanDo s t 0) old → All (λ t. CanDo s t 0) new
  all_can all = visited_can s is row number old new can_visit.there all visited

  none_counted : IsCountedOff s task old new 0
  none_counted = subst (λ (t : Task). IsCountedOff s t old new 0) (sym task_is) (visit_off s is row number old new can_visit.there visited)

  less_left : work_left new < work_left (old ++ task ∷ [])
  less_left = subst (λ (t : Task). work_left new < work_left (old ++ t ∷ [])) (sym task_is) (visited_less s is row number 0 old new can_visit.there visited)

pub returns-in_ok-visit-in-Visit-clause-can : goal.returns-in_ok-visit-in-Visit-clause-can
returns-in_ok-visit-in-Visit-clause-can c = all_can c.args.source.now c.requires.source c.args.task c.in-Visit.row c.in-Visit.number c.args.tasks.now.items c.visit.new.tasks.items c.in-Visit.is c.requires.can c.in_ok-visit-in-Visit.ensures c.requires.all

pub returns-in_ok-visit-in-Visit-clause-counted : goal.returns-in_ok-visit-in-Visit-clause-counted
returns-in_ok-visit-in-Visit-clause-counted c = none_counted c.args.source.now c.requires.source c.args.task c.in-Visit.row c.in-Visit.number c.args.tasks.now.items c.visit.new.tasks.items c.in-Visit.is c.requires.can c.in_ok-visit-in-Visit.ensures

pub returns-in_ok-visit-in-Visit-clause-less : goal.returns-in_ok-visit-in-Visit-clause-less
returns-in_ok-visit-in-Visit-clause-less c = less_left c.args.source.now c.requires.source c.args.task c.in-Visit.row c.in-Visit.number c.args.tasks.now.items c.visit.new.tasks.items c.in-Visit.is c.requires.can c.in_ok-visit-in-Visit.ensures

pub returns-in-Visit-default-eq0-clause-counted : goal.returns-in-Visit-default-eq0-clause-counted
returns-in-Visit-default-eq0-clause-counted c =
    let s = c.args.source.now in
    let old = c.args.tasks.now.items in
    let row = c.in-Visit-default-eq0.row in
    let known = c.in-Visit-default-eq0.is in
    let none = c.in-Visit-default-eq0.number-is in
    let is : c.args.task ≡ Visit row 0 = cc in
    subst (λ (t : Task). IsCountedOff s t old old (slice_index_or c.args.sizes.now row 0)) (sym is) (first_off s c.requires.source c.args.sizes.now row old c.requires.sized c.requires.sizes (subst (λ (t : Task). CanDo s t 0) is c.requires.can))

pub returns-in-Visit-default-eq0-clause-less : goal.returns-in-Visit-default-eq0-clause-less
returns-in-Visit-default-eq0-clause-less c = gone_less c.args.tasks.now.items c.args.task

pub returns-in-Word-clause-less : goal.returns-in-Word-clause-less
returns-in-Word-clause-less c = gone_less c.args.tasks.now.items c.args.task

pub returns-in-Close-clause-less : goal.returns-in-Close-clause-less
returns-in-Close-clause-less c = gone_less c.args.tasks.now.items c.args.task
