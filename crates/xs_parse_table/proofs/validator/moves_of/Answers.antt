use Rattle.std.proofs.Common.{arith}
use Rattle.xs_parse_table.specs.Rows.{automaton_of}
use Rattle.xs_parse_table.proofs.Building.{longer_again, starts_more}
use Rattle.xs_parse_table.proofs.validator.moves_of.Goals as goal

pub leaves-preserved : goal.leaves-preserved
leaves-preserved c =
    let old = c.leaves.invariant in (
      longer_again c.args.cells.now.items c.leaves.cells.items c.push_leaf.new.cells.items old.0 c.in_ok-start.ensures.cells,
      omega (arith, c.in_ok-push.ensures.len, old.1),
      starts_more (automaton_of c.args.g.now c.args.kind) c.args.atoms.now c.leaves.cells.items c.push_leaf.new.cells.items c.leaves.starts.items c.push.new.self.items c.leaves.leaf c.in_ok-start.start old.1 c.in_ok-push.ensures.items c.in_ok-start.ensures.cells old.2 c.in_ok-start.ensures.moves,
    )
