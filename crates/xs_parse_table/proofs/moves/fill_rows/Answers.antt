use Rattle.std.proofs.Common.{◌≡◌, length, arith}
use Rattle.xs_parse_table.proofs.Building.{rows_more, rows_begun, rows_done}
use Rattle.xs_parse_table.proofs.moves.fill_rows.Goals as goal

pub rows-init : goal.rows-init
rows-init c = rw c.new-sets.ensures (rows_begun c.args.p.now c.args.atoms.now c.args.cells.now.items c.args.start c.requires.start)

pub rows-preserved : goal.rows-preserved
rows-preserved c =
    let few = c.if-not-branch.false in
    rows_more c.args.p.now c.args.atoms.now c.args.cells.now.items c.args.start c.rows.sets c.push_row.new.sets c.rows.cells.items c.push_row.new.cells.items c.rows.row c.rows.invariant (omega arith) c.in_ok-push_row.ensures.sets c.in_ok-push_row.ensures.cells (c.in_ok-push_row.ensures.count few) (c.in_ok-push_row.ensures.row few)

pub returns-then-row-len-clause-moves : goal.returns-then-row-len-clause-moves
returns-then-row-len-clause-moves c = λ t.
    let l : c.len.result ≡ length c.rows.sets = c.len.ensures in
    rows_done c.args.p.now c.args.atoms.now c.args.cells.now.items c.args.start c.rows.sets c.rows.cells.items c.rows.row c.rows.invariant (omega arith)
