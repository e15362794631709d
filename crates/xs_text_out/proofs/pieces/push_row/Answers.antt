use Rattle.std.proofs.Common.{ℕ, List, length, refl, subst}
use Rattle.xs_text_out.specs.Pieces.{IsClosed}
use Rattle.xs_text_out.proofs.Laying.{row_put}
use Rattle.xs_text_out.proofs.pieces.push_row.Goals as goal

pub returns : goal.returns
returns c =
    let old = c.args.all.now.items in
    let ps = c.items.all.items in
    let more = c.push_rest.new.all.items in
    let text = c.items.text.items in
    let closed = subst (λ (t : List ℕ). IsClosed c.items.begin t c.items.all.items c.push_rest.new.all.items) c.deref.ensures.value c.in_ok-push_rest.ensures in
    row_put c.args.g.now c.args.items.now c.items.item-index (length c.args.all.now.items) c.items.begin old ps more c.args.text.now.items text c.items-test.false refl c.items.invariant.pieces_on c.items.invariant.text_on c.items.invariant.so_far closed
