use Rattle.std.proofs.Common.{◌≡◌, Some, sym, ◌∙◌, ap, length, arith}
use Rattle.std.specs.Prelude.{slice_get, List}
use Rattle.xs_forest.specs.declared.row.Alt.{Alt}
use Rattle.xs_forest_laws.specs.Forest.{alts_of}
use Rattle.xs_listing.proofs.Children.{alt_earlier, earlier_more}
use Rattle.xs_listing.proofs.Marking.{length_mark}
use Rattle.xs_listing.proofs.marks.mark_children.Goals as goal

pub mark-requires : goal.mark-requires
mark-requires c =
    let first : slice_get (alts_of c.args.forest.now c.args.row) 0 ≡ Some c.in-Some.alt.now = ap (λ (l : List Alt). slice_get l 0) (sym c.alts_at.ensures) ∙ sym c.in-Some.ensures.value in
    let e = alt_earlier c.args.forest.now c.args.row 0 c.in-Some.alt.now c.requires.below c.requires.there first in
    earlier_more c.in-Some.alt.now.left c.args.row (length c.args.marks.now) (omega arith) e.0

pub mark-requires-in-Some : goal.mark-requires-in-Some
mark-requires-in-Some c =
    let first : slice_get (alts_of c.args.forest.now c.args.row) 0 ≡ Some c.in-Some.alt.now = ap (λ (l : List Alt). slice_get l 0) (sym c.alts_at.ensures) ∙ sym c.in-Some.ensures.value in
    let e = alt_earlier c.args.forest.now c.args.row 0 c.in-Some.alt.now c.requires.below c.requires.there first in
    let same = ap length c.mark.ensures ∙ length_mark c.in-Some.alt.now.left c.args.marks.now in
    earlier_more c.in-Some.alt.now.right c.args.row (length c.mark.new.marks) (omega arith) e.1
