use Rattle.std.proofs.Common.{◌≡◌, ◌∙◌, refl, sym, ap, length, slice_get}
use Rattle.std.specs.List.{slice_range}
use Rattle.std.specs.declared.option.Option.TheVariants.{Some}
use Rattle.std.proofs.lemmas.Bool.{true≢false}
use Rattle.std.proofs.lemmas.Option.{slice_get_read}
use Rattle.xs_meet.proofs.SpellingLemmas.{row_next, same_next}
use Rattle.xs_meet.proofs.sharing.Shared.unfolded.Goals as goal
use Rattle.xs_meet.proofs.sharing.Shared.unfolded.Goals.{then-is_of+in_ok-push+in_ok-extend_from_slice+in_ok-push-2, else-is_of+in_ok-push-3}

pub pieces-preserved : goal.pieces-preserved
pieces-preserved c =
    let nest = c.args.nest.now in
    let s = c.args.self.now in
    let row = c.index-row.result.now in
    let rows = c.self.inside.rows.items in
    let within = rw (← c.self.view_is) at c.requires.place in
    let at : slice_get s.rows c.args.place ≡ Some row = rw (← c.self.view_is) (slice_get_read rows (length rows) c.args.place row refl within c.index-row.ensures) in
    let inside = slice_range c.deref.result.now row.start row.end in
    let is : inside ≡ slice_range s.pieces row.start row.end = ap (λ xs. slice_range xs row.start row.end) (c.deref.ensures.value ∙ ap (λ x. x.pieces) c.self.view_is) in
    record {
      so_far = elim c.if-is_of.branch [
        | then-is_of+in_ok-push+in_ok-extend_from_slice+in_ok-push-2 w ↦ rw w.all-is (row_next nest s c.args.place c.pieces.piece-index c.args.pieces.now row c.piece-item.result c.fence-left.result.0 c.fence-left.result.1 inside c.pieces.all.items _ _ _ c.requires.sharing at c.pieces-test.true c.piece-item.is (c.is_of.ensures.0 w.if-is_of.true) c.fence-left.ensures.left c.fence-left.ensures.right is w.in_ok-push.ensures.items w.in_ok-extend_from_slice.ensures.items w.in_ok-push-2.ensures.items c.pieces.invariant.so_far)
        | else-is_of+in_ok-push-3 w ↦ rw w.all-is (same_next nest s c.args.place c.pieces.piece-index c.args.pieces.now row c.piece-item.result c.pieces.all.items _ at c.pieces-test.true c.piece-item.is c.requires.known (λ h. true≢false (sym (c.is_of.ensures.1 h) ∙ w.if-is_of.false)) w.in_ok-push-3.ensures.items c.pieces.invariant.so_far)
      ];
    }
