use Rattle.std.proofs.Common.{length, List, sym, ◌∙◌, ap, subst, arith}
use Rattle.xs_forest.specs.declared.row.Alt.{Alt}
use Rattle.xs_forest.specs.Rows.{AreEarlier}
use Rattle.xs_forest_laws.specs.declared.span.SpanKey.{SpanKey}
use Rattle.xs_listing.proofs.Children.{alts_earlier, rows_below}
use Rattle.xs_listing.proofs.Walking.{dotted}
use Rattle.xs_listing.proofs.write.visit.Goals as goal

pub choose-chosen-requires-clause-earlier : goal.choose-chosen-requires-clause-earlier
choose-chosen-requires-clause-earlier c =
    let s = c.args.source.now in
    let long = c.requires.source.long in
    let there = c.requires.visit.there in
    let below = rows_below s.g.now s.doc.now s.forest.now c.requires.source.right in
    subst (λ (l : List Alt). AreEarlier l (length s.counts.now)) (sym c.alts_at-alts.ensures) (alts_earlier s.forest.now c.args.row (length s.counts.now) below there (omega arith))

pub task_after-requires-clause-dotted : goal.task_after-requires-clause-dotted
task_after-requires-clause-dotted c p d e =
    let s = c.args.source.now in
    dotted s.g.now s.doc.now s.forest.now s.cap s.counts.now c.requires.source.right c.args.row p d c.requires.visit.there (ap (λ (k : SpanKey). k.what) (sym c.label_at-label.ensures) ∙ e)
