use Rattle.std.proofs.Common.{◌≡◌, ◌+◌, ℕ, List, All, sym, subst, arith}
use Rattle.xs_tree.specs.Counts.{capped}
use Rattle.xs_forest_laws.specs.Forest.{read}
use Rattle.xs_listing.specs.declared.write.Task.{Task}
use Rattle.xs_listing.specs.Sizes.{spelt_count}
use Rattle.xs_listing.specs.Writing.{CanDo}
use Rattle.xs_listing.specs.Owed.{AllOwe}
use Rattle.xs_listing.proofs.Owing.{all_last, first_can, owe_first, next_owed}
use Rattle.xs_listing.proofs.sizes.size_of.Goals as goal

pub tasks-init : goal.tasks-init
tasks-init c =
    let s = c.args.source.now in
    let o = c.args.child in
    let k = c.args.number in
    let first = sym c.in_ok-tasks.ensures in
    record {
      can = subst (λ (l : List Task). All (λ t. CanDo s t 0) l) first (first_can s c.requires.source o k c.requires.child c.requires.within);
      small = omega arith;
      owed = λ u at.
          let n = spelt_count (read s.g.now s.doc.now s.forest.now o u) in
          (n, subst (λ (l : List Task). AllOwe s l n) first (owe_first s o k u at), omega arith);
    }

pub count_task-requires-clause-can : goal.count_task-requires-clause-can
count_task-requires-clause-can c =
    let s = c.args.source.now in
    all_last (λ t. CanDo s t 0) c.pop.new.self.items c.in-Some.task (subst (λ (l : List Task). All (λ t. CanDo s t 0) l) c.in-Some.ensures.items c.tasks.invariant.can)

pub tasks-preserved : goal.tasks-preserved
tasks-preserved c =
    let s = c.args.source.now in
    let task = c.in-Some.task in
    let old = c.pop.new.self.items in
    let new = c.count_task.new.tasks.items in
    let count = c.in_ok-count_task.field-0 in
    let size = c.tasks.size in
    let more : c.saturating_add-size.result ≡ capped (size + count) = omega arith in
    record {
      can = c.in_ok-count_task.ensures.can;
      small = omega arith;
      owed = λ u at.
          let whole = capped (spelt_count (read s.g.now s.doc.now s.forest.now c.args.child u)) in
          let before = subst (λ (l : List Task). (rest : ℕ) × AllOwe s l rest × (capped (size + rest) ≡ whole)) c.in-Some.ensures.items (c.tasks.invariant.owed u at) in
          next_owed s old new task count size c.saturating_add-size.result whole c.in_ok-count_task.ensures.counted more before;
    }
