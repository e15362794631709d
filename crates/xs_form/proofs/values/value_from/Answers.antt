use Rattle.std.proofs.Common.{◌≡◌, ◌&&◌, refl}
use Rattle.xs_form.specs.Values.{is_written}
use Rattle.xs_form.proofs.ValueLaws.{so_far_more, so_far_ends, part_shorter}
use Rattle.xs_form.proofs.values.value_from.Goals as goal
use Rattle.xs_form.proofs.values.value_from.Goals.{then-written, else-written}

pub parts-smaller : goal.parts-smaller
parts-smaller c = part_shorter c.args.quote c.parts.left.now c.in-Some.more.now c.in-Some.part c.in-Some.ensures

pub parts-preserved : goal.parts-preserved
parts-preserved c = λ text so.
    let next = so_far_more c.args.quote text c.parts.symbols c.parts.after_return c.parts.written c.parts.left.now c.in-Some.more.now c.in-Some.part (c.parts.invariant text so) c.in-Some.ensures in
    let w : c.if-written.written ≡ (c.parts.written && is_written c.in-Some.part) = elim c.if-written.branch [ then-written w ↦ rw (w.written-is, w.if-written.true, w.is_written_part-written.ensures) refl | else-written w ↦ rw (w.written-is, w.if-written.false) refl ] in
    rw (c.in_ok-push_part.ensures.ok, c.is_return_part-after_return.ensures, w) next

pub returns : goal.returns
returns c = λ text so.
    let end = so_far_ends c.args.quote text c.parts.symbols c.parts.after_return c.parts.written c.parts.left.now (c.parts.invariant text so) c.in_default.ensures in
    record { symbols = end.0; written = end.1; left = end.2 }
