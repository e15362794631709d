use Rattle.std.proofs.Common.{◌≡◌, ◌∙◌, List, Some, ap, subst, sym}
use Rattle.std.specs.Prelude.{slice_get, slice_range}
use Rattle.std.proofs.lemmas.Option.{slice_get-get_or}
use Rattle.xs_text_out.specs.declared.pieces.Piece.{Piece}
use Rattle.xs_text_out.specs.declared.pieces.Row.{Row}
use Rattle.xs_text_out.specs.Pieces.{pieces_word}
use Rattle.xs_table_out.proofs.Laying.{no_stretch, stretch_is}
use Rattle.xs_table_out.proofs.layout.pieces_at.Goals as goal

pub returns-then-row : goal.returns-then-row
returns-then-row c = λ at.
    let e = c.in-Some.ensures.lookup in
    let row = c.in-Some.row.now in
    let there : slice_get c.args.pieces.now.rows.items c.args.production ≡ Some c.in-Some.row.now =
    subst (λ (l : List Row). slice_get l c.args.production ≡ Some c.in-Some.row.now) c.deref.ensures.value (slice_get-get_or c.deref.result.now c.args.production c.in-Some.row.now e.3.0 ∙ ap (λ (x : Row). Some x) (sym e.1)) in
    let is = c.requires.rows c.args.production c.in-Some.row.now there in
    ap (λ (l : List Piece). pieces_word c.args.pieces.now.text.items l at)
    (ap (λ (l : List Piece). slice_range l c.in-Some.row.now.begin c.in-Some.row.now.end) c.deref-then-row.ensures.value ∙ stretch_is c.args.pieces.now.all.items c.in-Some.row.now.begin c.in-Some.row.now.end c.if-row.true)
    ∙ is.prints at

pub returns-else-row : goal.returns-else-row
returns-else-row c = λ at.
    let e = c.in-Some.ensures.lookup in
    let there : slice_get c.args.pieces.now.rows.items c.args.production ≡ Some c.in-Some.row.now =
    subst (λ (l : List Row). slice_get l c.args.production ≡ Some c.in-Some.row.now) c.deref.ensures.value (slice_get-get_or c.deref.result.now c.args.production c.in-Some.row.now e.3.0 ∙ ap (λ (x : Row). Some x) (sym e.1)) in
    let is = c.requires.rows c.args.production c.in-Some.row.now there in
    sym (ap (λ (l : List Piece). pieces_word c.args.pieces.now.text.items l at) (no_stretch c.args.pieces.now.all.items c.in-Some.row.now.begin c.in-Some.row.now.end c.if-row.false)) ∙ is.prints at
