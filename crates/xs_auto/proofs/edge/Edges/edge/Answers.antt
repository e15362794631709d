use Rattle.std.proofs.Common.{arith}
use Rattle.xs_auto.proofs.LayoutLemmas.{rows_length, row_named, edge_found}
use Rattle.xs_auto.proofs.edge.Edges.edge.Goals as goal

pub row_at-row-requires : goal.row_at-row-requires
row_at-row-requires c =
    let same = rows_length c.self.inside.classes.now c.self.inside.rows.now c.args.self.now c.self.view_is in
    omega (arith, same, c.requires)

pub class_at-class-requires : goal.class_at-class-requires
class_at-class-requires c =
    let same = rows_length c.self.inside.classes.now c.self.inside.rows.now c.args.self.now c.self.view_is in
    row_named _ c.self.inside.rows.now c.args.k c.row_at-row.result c.self.invariant (omega (arith, same, c.requires)) c.row_at-row.ensures

pub returns : goal.returns
returns c =
    let same = rows_length c.self.inside.classes.now c.self.inside.rows.now c.args.self.now c.self.view_is in
    edge_found c.self.inside.classes.now c.self.inside.rows.now c.args.k c.row_at-row.result c.class_at-class.result.now c.args.self.now c.self.view_is (omega (arith, same, c.requires)) c.row_at-row.ensures c.class_at-class.ensures
