use Rattle.std.proofs.Common.{length, List, sym, subst, arith}
use Rattle.xs_forest.specs.declared.row.Alt.{Alt}
use Rattle.xs_forest.specs.Rows.{AreEarlier}
use Rattle.xs_forest_laws.specs.Number.{IsChosen}
use Rattle.xs_listing.proofs.Children.{alts_earlier, rows_below}
use Rattle.xs_listing.proofs.list.root_choice.Goals as goal

pub choose-requires-clause-earlier : goal.choose-requires-clause-earlier
choose-requires-clause-earlier c =
    let s = c.args.source.now in
    let long = c.requires.source.long in
    let there = c.requires.root.0 in
    let below = rows_below s.g.now s.doc.now s.forest.now c.requires.source.right in
    subst (λ (l : List Alt). AreEarlier l (length s.counts.now)) (sym c.alts_at.ensures) (alts_earlier s.forest.now c.args.root (length s.counts.now) below there (omega arith))

pub returns : goal.returns
returns c =
    let s = c.args.source.now in
    let x = c.choose.result in
    (c.choose.ensures.0, subst (λ (l : List Alt). IsChosen s.cap s.counts.now l c.args.number c.choose.ensures.0 x.left x.right x.alt) c.alts_at.ensures c.choose.ensures.1)
