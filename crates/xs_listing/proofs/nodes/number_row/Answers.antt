use Rattle.std.proofs.Common.{length, sym, ◌∙◌, ap, arith}
use Rattle.xs_forest_laws.specs.declared.span.SpanKey.{SpanKey}
use Rattle.xs_listing.specs.Marks.{IsMarked}
use Rattle.xs_listing.specs.Making.{IsWhole}
use Rattle.xs_listing.proofs.Marking.{marked_at}
use Rattle.xs_listing.proofs.Preparing.{can_make}
use Rattle.xs_listing.proofs.nodes.number_row.Goals as goal

pub add_node-requires-clause-can : goal.add_node-requires-clause-can
add_node-requires-clause-can c =
    let n = length c.args.numbers.now in
    let mark : IsMarked c.args.marks.now n = marked_at c.args.marks.now n (omega arith) c.if-not-marks-row.false in
    let whole : IsWhole c.args.forest.now n = (c.in-Whole.field-0, ap (λ (k : SpanKey). k.what) (sym c.label_at.ensures) ∙ c.in-Whole.is) in
    can_make c.args.g.now c.args.doc.now c.args.forest.now c.requires.right c.args.marks.now c.requires.marked c.args.builder.now c.args.numbers.now c.requires.made mark whole
