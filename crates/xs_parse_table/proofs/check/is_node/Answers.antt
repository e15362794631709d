use Rattle.std.proofs.Common.{◌≡◌, ◌+◌, List, ℕ, Some, get_or, subst, arith}
use Rattle.std.proofs.lemmas.Option.{slice_get-get_or}
use Rattle.std.specs.Prelude.{slice_get}
use Rattle.xs_parse_table.proofs.Items.{one_more}
use Rattle.xs_parse_table.proofs.check.is_node.Goals as goal

pub items-preserved : goal.items-preserved
items-preserved c = λ end after.
    let xs = c.as_slice-parts.result.now in
    let place = c.args.node.parts + c.items.dot in
    let p : slice_get c.args.table.now.parts.items place ≡ Some (get_or xs place 0) =
    subst (λ (ys : List ℕ). slice_get ys place ≡ Some (get_or xs place 0)) c.as_slice-parts.ensures.value (slice_get-get_or xs place 0 (omega (arith, c.if-parts-begin.false, c.items-test.true))) in
    c.items.invariant end (one_more c.args.g.now c.args.doc.now c.args.table.now.nodes.items c.args.table.now.parts.items c.args.v c.args.node.parts c.items.dot c.items-items.result.now c.index-items-dot.result c.items.at (get_or xs place 0) c.in-Some.end end (omega arith) c.index-items-dot.is p (rw c.as_slice-nodes.ensures.value at c.in-Some.ensures) after)
