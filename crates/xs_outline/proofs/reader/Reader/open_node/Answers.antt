use Rattle.std.proofs.Common.{◌≡◌, ◌∙◌, [], refl, ap, subst, sym, arith}
use Rattle.std.proofs.lemmas.Result.{on_ok_weaker}
use Rattle.xs_tree.specs.Flat.{Node, tree_at, trees_of}
use Rattle.std.specs.Prelude.{vec_len}
use Rattle.xs_outline.specs.declared.slot_table.SlotTable.{SlotTable}
use Rattle.xs_outline.specs.Shapes.{slot_count}
use Rattle.xs_outline.specs.declared.reader.Open.{Open}
use Rattle.xs_outline.specs.declared.reader.Reader.{Reader}
use Rattle.xs_outline.specs.Machine.{give}
use Rattle.xs_outline.specs.Reader.{frames, IsFree}
use Rattle.xs_outline.proofs.Placing.{row_is}
use Rattle.xs_outline.proofs.Giving.{opened_state, opened_kept, added_frames, added_kept, wider_kept, entered_whole, added_tree}
use Rattle.xs_outline.proofs.reader.Reader.open_node.Goals as goal

pub returns-then-missing-gt0 : goal.returns-then-missing-gt0
returns-then-missing-gt0 c =
    let table = row_is c.args.two.now c.args.tables.now c.args.rule c.index-tables-rule.result c.requires.tables c.requires.rule c.index-tables-rule.is in
    let count : c.len-missing.result ≡ slot_count c.args.two.now c.args.rule = omega (arith, c.len-missing.ensures, c.index-tables-rule.result.kinds.ok.0, table.long, ap (λ (row : SlotTable). vec_len row.kinds) c.index-tables-rule.is) in
    let now : Reader = record { parts = c.args.self.now.parts; «open» = c.push.new.self; children = c.args.self.now.children; kids = c.args.self.now.kids; root = c.args.self.now.root } in
    let own : Open = record { node = c.args.number; rule = c.args.rule; slot = c.args.slot; missing = c.len-missing.result } in record {
      state = opened_state c.args.two.now c.args.self.now now own c.args.number refl refl c.requires.root refl c.in_ok-push.ensures.items c.requires.kept refl c.requires.rule count c.if-missing-gt0.true c.requires.free;
      kept = opened_kept c.args.two.now c.args.self.now now own c.args.number refl refl c.requires.root refl c.in_ok-push.ensures.items c.requires.kept refl c.requires.rule count c.if-missing-gt0.true c.requires.free;
    }

pub give-requires-clause-kept : goal.give-requires-clause-kept
give-requires-clause-kept c = (c.args.number, added_kept c.args.two.now c.args.self.now _ (Node c.args.rule []) c.args.number _ c.in_ok-part.ensures.added c.in_ok-part.ensures.means refl refl refl c.requires.root c.requires.kept)

pub give-requires-clause-free : goal.give-requires-clause-free
give-requires-clause-free c = subst (λ fs. IsFree fs c.args.slot) (sym (added_frames c.args.two.now c.args.self.now c.node.new.self c.args.number _ c.in_ok-part.ensures.means c.requires.kept)) c.requires.free

pub returns-clause-state : goal.returns-clause-state
returns-clause-state c =
    let table = row_is c.args.two.now c.args.tables.now c.args.rule c.index-tables-rule.result c.requires.tables c.requires.rule c.index-tables-rule.is in
    let none : slot_count c.args.two.now c.args.rule ≡ 0 = omega (arith, c.len-missing.ensures, c.index-tables-rule.result.kinds.ok.0, table.long, ap (λ (row : SlotTable). vec_len row.kinds) c.index-tables-rule.is, c.if-missing-gt0.false) in
    let same = added_frames c.args.two.now c.args.self.now c.node.new.self c.args.number _ c.in_ok-part.ensures.means c.requires.kept in
    on_ok_weaker c.give.result (λ e. e ∙ ap (λ fs. give fs c.args.slot (tree_at (trees_of c.node.new.self) c.in_ok-part.part)) same
    ∙ ap (give (frames c.args.two.now c.args.self.now) c.args.slot) (added_tree c.args.self.now.parts c.node.new.self c.in_ok-part.part _ c.in_ok-part.ensures.number c.in_ok-part.ensures.means)
    ∙ sym (entered_whole c.args.two.now (frames c.args.two.now c.args.self.now) c.args.slot c.args.rule none)) c.give.ensures.state

pub returns-clause-kept : goal.returns-clause-kept
returns-clause-kept c =
    on_ok_weaker c.give.result (λ f. wider_kept c.args.two.now c.give.new.self c.args.number _ (omega arith) (f c.args.number (added_kept c.args.two.now c.args.self.now _ (Node c.args.rule []) c.args.number _ c.in_ok-part.ensures.added c.in_ok-part.ensures.means refl refl refl c.requires.root c.requires.kept))) c.give.ensures.kept
