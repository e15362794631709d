use Rattle.std.proofs.Common.{◌∙◌, ap, arith}
use Rattle.xs_outline.specs.Tables.{known}
use Rattle.xs_outline.proofs.Placing.{top_rule, top_row, top_kind, named_by, slot_below, inner_deep, inner_unnamed, inner_taken, inner_free, inner_strange, inner_found, kind_there}
use Rattle.xs_outline.proofs.reader.Reader.inner_place.Goals as goal

pub returns-then-depth-len-clause-place : goal.returns-then-depth-len-clause-place
returns-then-depth-len-clause-place c = inner_deep c.args.two.now c.args.self.now c.requires.open.0 c.args.top c.requires.root c.requires.open.1 c.args.depth c.len.result c.args.name.now c.if-depth-len.true (omega (arith, c.len.ensures, c.args.self.now.open.ok.0))

pub bounds-tables-top : goal.bounds-tables-top
bounds-tables-top c =
    let there = top_rule c.args.two.now c.args.self.now c.requires.open.0 c.args.top c.requires.kept.0 c.requires.open.1 c.requires.kept.1 in
    omega (arith, there, c.requires.tables.long)

pub returns-in_default-clause-place : goal.returns-in_default-clause-place
returns-in_default-clause-place c =
    let table = top_row c.args.two.now c.args.self.now c.requires.open.0 c.args.top c.requires.kept.0 c.args.tables.now c.index-tables-top.result c.requires.open.1 c.requires.kept.1 c.requires.tables c.index-tables-top.is in
    let named = named_by c.args.two.now c.args.top.rule c.index-tables-top.result c.args.name.now _ table c.in_default.ensures in
    inner_unnamed c.args.two.now c.args.self.now c.requires.open.0 c.args.top c.requires.root c.requires.open.1 c.args.depth c.args.name.now named

pub has_child-requires : goal.has_child-requires
has_child-requires c all =
    let table = top_row c.args.two.now c.args.self.now c.requires.open.0 c.args.top c.requires.kept.0 c.args.tables.now c.index-tables-top.result c.requires.open.1 c.requires.kept.1 c.requires.tables c.index-tables-top.is in
    let named = named_by c.args.two.now c.args.top.rule c.index-tables-top.result c.args.name.now _ table c.in-Some.ensures in
    inner_free c.args.two.now c.args.self.now c.requires.open.0 c.args.top c.requires.root c.requires.open.1 c.requires.kept.0 c.in-Some.slot c.args.name.now c.requires.kept.1 named
    (omega (arith, all, c.len-count.ensures, c.index-tables-top.result.kinds.ok.0, table.long))

pub returns-then-has_child-clause-place : goal.returns-then-has_child-clause-place
returns-then-has_child-clause-place c =
    let table = top_row c.args.two.now c.args.self.now c.requires.open.0 c.args.top c.requires.kept.0 c.args.tables.now c.index-tables-top.result c.requires.open.1 c.requires.kept.1 c.requires.tables c.index-tables-top.is in
    let named = named_by c.args.two.now c.args.top.rule c.index-tables-top.result c.args.name.now _ table c.in-Some.ensures in
    inner_taken c.args.two.now c.args.self.now c.requires.open.0 c.args.top c.requires.root c.requires.open.1 c.args.depth c.in-Some.slot c.args.name.now named (rw c.if-has_child.true at c.has_child.ensures)

pub index-requires : goal.index-requires
index-requires c =
    let table = top_row c.args.two.now c.args.self.now c.requires.open.0 c.args.top c.requires.kept.0 c.args.tables.now c.index-tables-top.result c.requires.open.1 c.requires.kept.1 c.requires.tables c.index-tables-top.is in
    let named = named_by c.args.two.now c.args.top.rule c.index-tables-top.result c.args.name.now _ table c.in-Some.ensures in
    let below = slot_below c.args.two.now c.args.self.now c.requires.open.0 c.args.top c.requires.root c.requires.open.1 c.in-Some.slot c.args.name.now named in
    omega (arith, below, table.long, c.index-tables-top.result.kinds.ok.0)

pub returns-in-Some-index : goal.returns-in-Some-index
returns-in-Some-index c =
    let table = top_row c.args.two.now c.args.self.now c.requires.open.0 c.args.top c.requires.kept.0 c.args.tables.now c.index-tables-top.result c.requires.open.1 c.requires.kept.1 c.requires.tables c.index-tables-top.is in
    let named = named_by c.args.two.now c.args.top.rule c.index-tables-top.result c.args.name.now _ table c.in-Some.ensures in
    let kind = top_kind c.args.two.now c.args.self.now c.requires.open.0 c.args.top c.index-tables-top.result c.in-Some.slot c.args.name.now c.index.result.now c.requires.root c.requires.open.1 table named c.index.ensures in record {
      there = kind_there c.args.two.now c.args.top.rule c.in-Some.slot _ c.requires.built (kind ∙ ap known c.in-Some-index.is);
      place = inner_found c.args.two.now c.args.self.now c.requires.open.0 c.args.top c.requires.root c.requires.open.1 c.args.depth c.in-Some.slot c.args.name.now _ (omega (arith, c.if-depth-len.false, c.len.ensures, c.args.self.now.open.ok.0)) named (rw c.if-has_child.false at c.has_child.ensures) (kind ∙ ap known c.in-Some-index.is);
    }

pub returns-in-None-clause-place : goal.returns-in-None-clause-place
returns-in-None-clause-place c =
    let table = top_row c.args.two.now c.args.self.now c.requires.open.0 c.args.top c.requires.kept.0 c.args.tables.now c.index-tables-top.result c.requires.open.1 c.requires.kept.1 c.requires.tables c.index-tables-top.is in
    let named = named_by c.args.two.now c.args.top.rule c.index-tables-top.result c.args.name.now _ table c.in-Some.ensures in
    let kind = top_kind c.args.two.now c.args.self.now c.requires.open.0 c.args.top c.index-tables-top.result c.in-Some.slot c.args.name.now c.index.result.now c.requires.root c.requires.open.1 table named c.index.ensures in
    inner_strange c.args.two.now c.args.self.now c.requires.open.0 c.args.top c.requires.root c.requires.open.1 c.args.depth c.in-Some.slot c.args.name.now named (kind ∙ ap known c.in-None.is)
