use Rattle.std.proofs.Common.{◌≡◌, ◌<◌, ◌∙◌, length, refl, ap, arith, subst}
use Rattle.std.specs.Prelude.{vec_len}
use Rattle.xs_outline.specs.declared.reader.Reader.{Reader}
use Rattle.xs_outline.specs.declared.slot_table.SlotTable.{SlotTable}
use Rattle.xs_outline.specs.Shapes.{slot_count}
use Rattle.xs_outline.proofs.Placing.{row_at}
use Rattle.xs_outline.proofs.Giving.{filled_kept, filled_state, given_rule, given_below, last_all, last_below, closed_root, closed_part, closed_free, closed_same, closed_kept}
use Rattle.xs_outline.proofs.reader.Reader.give.Goals as goal

pub returns-then-top-gt1-clause-state : goal.returns-then-top-gt1-clause-state
returns-then-top-gt1-clause-state c =
    filled_state c.args.two.now c.nodes.self c.pop.new.self.items c.in-Some.top c.nodes.slot c.nodes.part c.in-Some.ensures.items c.nodes.invariant.root c.nodes.invariant.part c.nodes.invariant.free c.fill.new.self c.in_ok-fill.ensures.here c.in_ok-fill.ensures.others c.in_ok-fill.ensures.parts c.in_ok-fill.ensures.root c.requires.kept.0 (c.nodes.invariant.kept c.requires.kept.0 c.requires.kept.1) c.if-top-gt1.true c.in_ok-fill.ensures.open ∙ c.nodes.invariant.same

pub returns-then-top-gt1-clause-kept : goal.returns-then-top-gt1-clause-kept
returns-then-top-gt1-clause-kept c bound kept =
    filled_kept c.args.two.now c.nodes.self c.pop.new.self.items c.in-Some.top c.nodes.slot c.nodes.part c.in-Some.ensures.items c.nodes.invariant.root c.nodes.invariant.part c.nodes.invariant.free c.fill.new.self c.in_ok-fill.ensures.here c.in_ok-fill.ensures.others c.in_ok-fill.ensures.parts c.in_ok-fill.ensures.root bound (c.nodes.invariant.kept bound kept) c.if-top-gt1.true c.in_ok-fill.ensures.open

pub bounds-tables-top : goal.bounds-tables-top
bounds-tables-top c =
    let rule = given_rule c.args.two.now c.nodes.self c.pop.new.self.items c.in-Some.top c.nodes.slot c.nodes.part c.in-Some.ensures.items c.nodes.invariant.root c.nodes.invariant.part c.nodes.invariant.free c.requires.kept.0 (c.nodes.invariant.kept c.requires.kept.0 c.requires.kept.1) in
    omega (arith, rule, c.requires.tables.long)

pub close-requires-clause-below : goal.close-requires-clause-below
close-requires-clause-below c k n is = last_below c.args.two.now c.nodes.self c.pop.new.self.items c.in-Some.top c.nodes.slot c.nodes.part c.in-Some.ensures.items c.nodes.invariant.root c.nodes.invariant.part c.nodes.invariant.free c.requires.kept.0 (c.nodes.invariant.kept c.requires.kept.0 c.requires.kept.1) k n is

pub close-requires-clause-full : goal.close-requires-clause-full
close-requires-clause-full c k less_ =
    let rule = given_rule c.args.two.now c.nodes.self c.pop.new.self.items c.in-Some.top c.nodes.slot c.nodes.part c.in-Some.ensures.items c.nodes.invariant.root c.nodes.invariant.part c.nodes.invariant.free c.requires.kept.0 (c.nodes.invariant.kept c.requires.kept.0 c.requires.kept.1) in
    let lt : c.in-Some.top.rule < length c.args.tables.now = omega (arith, rule, c.requires.tables.long) in
    let table = c.requires.tables.each c.in-Some.top.rule c.index-tables-top.result (row_at c.args.tables.now c.in-Some.top.rule c.index-tables-top.result lt c.index-tables-top.is) in
    let count : c.len-count.result ≡ slot_count c.args.two.now c.in-Some.top.rule = omega (arith, c.len-count.ensures, c.index-tables-top.result.kinds.ok.0, table.long, ap (λ (row : SlotTable). vec_len row.kinds) c.index-tables-top.is) in
    last_all c.args.two.now c.nodes.self c.pop.new.self.items c.in-Some.top c.nodes.slot c.nodes.part c.in-Some.ensures.items c.nodes.invariant.root c.nodes.invariant.part c.nodes.invariant.free c.requires.kept.0 (c.nodes.invariant.kept c.requires.kept.0 c.requires.kept.1) c.if-top-gt1.false k (subst (λ n. k < n) count less_)

pub close-requires-clause-last : goal.close-requires-clause-last
close-requires-clause-last c =
    let rule = given_rule c.args.two.now c.nodes.self c.pop.new.self.items c.in-Some.top c.nodes.slot c.nodes.part c.in-Some.ensures.items c.nodes.invariant.root c.nodes.invariant.part c.nodes.invariant.free c.requires.kept.0 (c.nodes.invariant.kept c.requires.kept.0 c.requires.kept.1) in
    let lt : c.in-Some.top.rule < length c.args.tables.now = omega (arith, rule, c.requires.tables.long) in
    let table = c.requires.tables.each c.in-Some.top.rule c.index-tables-top.result (row_at c.args.tables.now c.in-Some.top.rule c.index-tables-top.result lt c.index-tables-top.is) in
    let count : c.len-count.result ≡ slot_count c.args.two.now c.in-Some.top.rule = omega (arith, c.len-count.ensures, c.index-tables-top.result.kinds.ok.0, table.long, ap (λ (row : SlotTable). vec_len row.kinds) c.index-tables-top.is) in
    let below = given_below c.args.two.now c.nodes.self c.pop.new.self.items c.in-Some.top c.nodes.slot c.nodes.part c.in-Some.ensures.items c.nodes.invariant.root c.nodes.invariant.part c.nodes.invariant.free in
    omega (arith, below, count)

pub nodes-preserved : goal.nodes-preserved
nodes-preserved c =
    let rule = given_rule c.args.two.now c.nodes.self c.pop.new.self.items c.in-Some.top c.nodes.slot c.nodes.part c.in-Some.ensures.items c.nodes.invariant.root c.nodes.invariant.part c.nodes.invariant.free c.requires.kept.0 (c.nodes.invariant.kept c.requires.kept.0 c.requires.kept.1) in
    let lt : c.in-Some.top.rule < length c.args.tables.now = omega (arith, rule, c.requires.tables.long) in
    let table = c.requires.tables.each c.in-Some.top.rule c.index-tables-top.result (row_at c.args.tables.now c.in-Some.top.rule c.index-tables-top.result lt c.index-tables-top.is) in
    let count : c.len-count.result ≡ slot_count c.args.two.now c.in-Some.top.rule = omega (arith, c.len-count.ensures, c.index-tables-top.result.kinds.ok.0, table.long, ap (λ (row : SlotTable). vec_len row.kinds) c.index-tables-top.is) in
    let popped : Reader = record { parts = c.nodes.self.parts; «open» = c.pop.new.self; children = c.nodes.self.children; kids = c.nodes.self.kids; root = c.nodes.self.root } in
    record {
      root = closed_root c.args.two.now c.nodes.self c.pop.new.self.items c.in-Some.top c.nodes.slot c.nodes.part c.in-Some.ensures.items c.nodes.invariant.root c.nodes.invariant.part c.nodes.invariant.free popped c.close.new.self c.len-count.result c.in_ok-part.part c.if-top-gt1.false refl refl refl refl count c.in_ok-part.ensures;
      part = closed_part c.args.two.now c.nodes.self c.pop.new.self.items c.in-Some.top c.nodes.slot c.nodes.part c.in-Some.ensures.items c.nodes.invariant.root c.nodes.invariant.part c.nodes.invariant.free popped c.close.new.self c.len-count.result c.in_ok-part.part c.if-top-gt1.false refl refl refl refl count c.in_ok-part.ensures;
      free = closed_free c.args.two.now c.nodes.self c.pop.new.self.items c.in-Some.top c.nodes.slot c.nodes.part c.in-Some.ensures.items c.nodes.invariant.root c.nodes.invariant.part c.nodes.invariant.free popped c.close.new.self c.len-count.result c.in_ok-part.part c.if-top-gt1.false refl refl refl refl count c.in_ok-part.ensures c.requires.kept.0 (c.nodes.invariant.kept c.requires.kept.0 c.requires.kept.1);
      kept = λ bound kept. closed_kept c.args.two.now c.nodes.self c.pop.new.self.items c.in-Some.top c.nodes.slot c.nodes.part c.in-Some.ensures.items c.nodes.invariant.root c.nodes.invariant.part c.nodes.invariant.free popped c.close.new.self c.len-count.result c.in_ok-part.part c.if-top-gt1.false refl refl refl refl count c.in_ok-part.ensures bound (c.nodes.invariant.kept bound kept);
      same = closed_same c.args.two.now c.nodes.self c.pop.new.self.items c.in-Some.top c.nodes.slot c.nodes.part c.in-Some.ensures.items c.nodes.invariant.root c.nodes.invariant.part c.nodes.invariant.free popped c.close.new.self c.len-count.result c.in_ok-part.part c.if-top-gt1.false refl refl refl refl count c.in_ok-part.ensures c.requires.kept.0 (c.nodes.invariant.kept c.requires.kept.0 c.requires.kept.1) ∙ c.nodes.invariant.same;
    }
