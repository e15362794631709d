use Rattle.std.proofs.Common.{◌^◌, length}
use Rattle.xs_forest_laws.specs.Grown.{IsGrown}
use Rattle.xs_grow.specs.Making.{stands_at, AreOwed}
use Rattle.xs_grow.proofs.Stacking.{left_of}
use Rattle.xs_grow.proofs.forest.grow_rows.Given as goal

abbrev pub invariant-labels : goal.invariant-labels
invariant-labels l = record {
  grown : IsGrown l.source.g.now l.source.doc.now (stands_at l.source.g.now l.source.doc.now) l.forest;
  owed : AreOwed l.source.g.now l.source.doc.now l.forest l.fn.root l.is_new l.stack.items;
}

abbrev pub decreases-labels : goal.decreases-labels
decreases-labels l = left_of (2 ^ 64) (length l.forest) l.is_new (length l.stack.items)
