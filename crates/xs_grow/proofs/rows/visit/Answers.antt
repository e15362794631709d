use Rattle.xs_grow.proofs.rows.visit.Goals as goal
use Rattle.xs_grow.proofs.rows.visit.Goals.{then-not-is_new+in_default, else-not-is_new}

pub add-requires-clause-rowless : goal.add-requires-clause-rowless
add-requires-clause-rowless c = elim c.if-not-is_new.branch [
  | then-not-is_new+in_default w ↦ w.in_default.ensures.found
  | else-not-is_new w ↦ c.requires.rowless w.if-not-is_new.false
]
