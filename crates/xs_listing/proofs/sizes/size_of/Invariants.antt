use Rattle.std.proofs.Common.{All, ◌≡◌, ◌+◌, ◌≤◌, ◌-◌, ◌^◌, ℕ}
use Rattle.xs_tree.specs.Counts.{capped}
use Rattle.xs_forest_laws.specs.Forest.{Unfolding, read}
use Rattle.xs_forest_laws.specs.Number.{At}
use Rattle.xs_listing.specs.Sizes.{spelt_count}
use Rattle.xs_listing.specs.Writing.{CanDo, work_left}
use Rattle.xs_listing.specs.Owed.{AllOwe}
use Rattle.xs_listing.proofs.sizes.size_of.Given as goal

abbrev pub invariant-tasks : goal.invariant-tasks
invariant-tasks l = record {
  can : All (λ t. CanDo l.source t 0) l.tasks.items;
  small : l.size ≤ 2 ^ 64 - 1;
  owed : (u : Unfolding) → At l.source.forest.now l.source.cap l.source.counts.now l.fn.child l.fn.number u → (rest : ℕ) × AllOwe l.source l.tasks.items rest × (capped (l.size + rest) ≡ capped (spelt_count (read l.source.g.now l.source.doc.now l.source.forest.now l.fn.child u)));
}

abbrev pub decreases-tasks : goal.decreases-tasks
decreases-tasks l = work_left l.tasks.items
