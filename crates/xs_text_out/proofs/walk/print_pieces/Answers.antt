use Rattle.std.proofs.Common.{◌≡◌, ◌++◌, ◌∙◌, ◌+◌, List, None, Some, slice_get, inl, inr, sym, ap, arith, rules}
use Rattle.xs_text_out.specs.declared.pieces.Piece.{Piece}
use Rattle.xs_text_out.specs.Walk.{rest_word}
use Rattle.xs_text_out.proofs.Laying.{within_at}
use Rattle.xs_text_out.proofs.Walking.{last_step, past_last, piece_room, piece_step, rest_less, rest_none}
use Rattle.xs_text_out.proofs.walk.print_pieces.Goals as goal

pub print_piece-entered-requires-clause-text : goal.print_piece-entered-requires-clause-text
print_piece-entered-requires-clause-text c =
    within_at c.args.pieces.now.text.items c.args.pieces.now.all.items c.pieces.place c.in-Some.piece c.requires.pieces.within (ap (λ (l : List Piece). slice_get l c.pieces.place) (sym c.deref.ensures.value) ∙ sym c.in-Some.ensures)

pub print_piece-entered-requires-clause-room : goal.print_piece-entered-requires-clause-room
print_piece-entered-requires-clause-room c =
    let g = c.args.g.now in
    let p = c.args.pieces.now in
    let f = c.args.t.now in
    let found : slice_get c.args.pieces.now.all.items c.pieces.place ≡ Some c.in-Some.piece = ap (λ (l : List Piece). slice_get l c.pieces.place) (sym c.deref.ensures.value) ∙ sym c.in-Some.ensures in
    let within = piece_room g p f c.args.task.part c.pieces.place c.args.task.end c.in-Some.piece c.pieces.symbols.items c.args.symbols.now.items (rest_word g p f c.args.task) found c.pieces-test.true c.pieces.invariant.so_far in
    omega (arith, within, c.pieces.symbols.ok.0, c.args.symbols.now.ok.0, c.pieces.invariant.room, c.requires.room)

pub returns-in_default-clause-prints : goal.returns-in_default-clause-prints
returns-in_default-clause-prints c =
    let g = c.args.g.now in
    let p = c.args.pieces.now in
    let f = c.args.t.now in
    let none : None ≡ slice_get c.args.pieces.now.all.items c.pieces.place = c.in_default.ensures ∙ ap (λ (l : List Piece). slice_get l c.pieces.place) c.deref.ensures.value in
    last_step g p f c.args.task.part c.pieces.place c.args.task.end c.pieces.symbols.items (c.args.symbols.now.items ++ rest_word g p f c.args.task) (inr (past_last c.args.pieces.now.all.items c.pieces.place none)) c.pieces.invariant.so_far

pub returns-in-Some-entered-clause-prints : goal.returns-in-Some-entered-clause-prints
returns-in-Some-entered-clause-prints c =
    let g = c.args.g.now in
    let p = c.args.pieces.now in
    let f = c.args.t.now in
    let found : slice_get c.args.pieces.now.all.items c.pieces.place ≡ Some c.in-Some.piece = ap (λ (l : List Piece). slice_get l c.pieces.place) (sym c.deref.ensures.value) ∙ sym c.in-Some.ensures in
    piece_step g p f c.args.task.part c.pieces.place c.args.task.end c.in-Some.piece (Some c.in-Some-entered.kid) c.pieces.symbols.items c.print_piece-entered.new.symbols.items (c.args.symbols.now.items ++ rest_word g p f c.args.task) found c.pieces-test.true c.in-Some-entered.ensures.prints c.pieces.invariant.so_far

pub returns-in-Some-entered-clause-entry : goal.returns-in-Some-entered-clause-entry
returns-in-Some-entered-clause-entry c =
    let p = c.args.pieces.now in
    let found : slice_get c.args.pieces.now.all.items c.pieces.place ≡ Some c.in-Some.piece = ap (λ (l : List Piece). slice_get l c.pieces.place) (sym c.deref.ensures.value) ∙ sym c.in-Some.ensures in
    record {
      kid = c.in-Some-entered.ensures.node;
      less = rest_less p c.args.task.part c.args.task.place c.pieces.place c.args.task.end c.in-Some.piece found c.pieces-test.true (search rules);
      last = λ no. rest_none p c.args.task.part (c.pieces.place + 1) c.args.task.end (inl (search rules));
    }

pub pieces-preserved : goal.pieces-preserved
pieces-preserved c =
    let g = c.args.g.now in
    let p = c.args.pieces.now in
    let f = c.args.t.now in
    let found : slice_get c.args.pieces.now.all.items c.pieces.place ≡ Some c.in-Some.piece = ap (λ (l : List Piece). slice_get l c.pieces.place) (sym c.deref.ensures.value) ∙ sym c.in-Some.ensures in
    record {
      so_far = piece_step g p f c.args.task.part c.pieces.place c.args.task.end c.in-Some.piece None c.pieces.symbols.items c.print_piece-entered.new.symbols.items (c.args.symbols.now.items ++ rest_word g p f c.args.task) found c.pieces-test.true c.in_default-entered.ensures.prints c.pieces.invariant.so_far;
      room = omega (arith, c.in_default-entered.ensures.room, c.pieces.invariant.room);
    }
