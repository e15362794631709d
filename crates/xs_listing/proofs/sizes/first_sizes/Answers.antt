use Rattle.std.proofs.Common.{rules, ◌∙◌, ap, length, arith}
use Rattle.xs_listing.proofs.Sized.{next_size}
use Rattle.xs_listing.proofs.sizes.first_sizes.Goals as goal

pub row_size-size-requires-clause-before : goal.row_size-size-requires-clause-before
row_size-size-requires-clause-before c = let long = ap length c.deref.ensures.value ∙ c.rows.invariant.long in omega arith

pub row_size-size-requires-clause-sizes : goal.row_size-size-requires-clause-sizes
row_size-size-requires-clause-sizes c = rw c.deref.ensures.value c.rows.invariant.sizes

pub rows-preserved : goal.rows-preserved
rows-preserved c = record {
  long = search rules;
  sizes = next_size c.args.g.now c.args.doc.now c.args.forest.now c.requires c.rows.sizes.items c.rows.invariant.sizes c.push.new.self.items c.rows.row c.row_size-size.result c.rows.invariant.long c.row_size-size.ensures c.in_ok-push.ensures.items;
}
