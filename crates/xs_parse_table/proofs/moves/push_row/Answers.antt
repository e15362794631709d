use Rattle.std.proofs.Common.{length}
use Rattle.xs_parse_table.proofs.Building.{row_of}
use Rattle.xs_parse_table.proofs.moves.push_row.Goals as goal

pub returns-clause-row : goal.returns-clause-row
returns-clause-row c = λ _.
    let few = c.if-not-branch.false in
    row_of c.args.p.now c.args.atoms.now c.args.classes.now c.in_ok-may.may.items c.args.start c.args.row c.args.sets.now c.push_moves.new.sets c.push_moves.new.cells.items c.push.new.self.items (length c.args.cells.now.items) c.end_cell-end.result c.may_end.result c.requires.classes
    c.in_ok-may.ensures.come c.in_ok-may.ensures.within c.in_ok-push_moves.ensures.sets c.requires.row (rw c.deref.ensures.value at (c.in_ok-push_moves.ensures.moves few)) (c.in_ok-push_moves.ensures.count few) c.in_ok-push.ensures.items c.end_cell-end.ensures c.may_end.ensures
