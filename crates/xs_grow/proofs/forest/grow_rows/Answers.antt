use Rattle.std.proofs.Common.{length, ◌≡◌, ◌-◌, ◌∙◌, sym, vec_len, arith, true≢false}
use Rattle.std.proofs.lemmas.Bool.{eq-eqb}
use Rattle.xs_class.proofs.Lists.{len_is}
use Rattle.xs_grow.proofs.Stacking.{some, new_rowless, owed_none, owed_row, still_some}
use Rattle.xs_grow.proofs.forest.grow_rows.Goals as goal

pub visit-requires-clause-rowless : goal.visit-requires-clause-rowless
visit-requires-clause-rowless c =
    let s = c.args.source.now in
    let owed = c.labels.invariant.owed in
    let more = some s.g.now s.doc.now c.args.root c.labels.forest c.labels.is_new c.labels.stack.items owed in
    new_rowless s.g.now s.doc.now c.args.root c.labels.forest c.labels.is_new c.labels.stack.items owed (c.len.result - 1) c.index-key.result.now (omega (arith, more, c.len.ensures, len_is c.labels.stack)) c.index-key.ensures

pub pop-requires : goal.pop-requires
pop-requires c =
    let s = c.args.source.now in
    still_some s.g.now s.doc.now c.args.root c.labels.forest c.labels.is_new c.labels.stack.items c.labels.invariant.owed c.index-key.result.now c.visit.new.forest c.visit.new.missing.items c.in_ok-row.row c.in-Some.row c.in-Some.is c.in_ok-row.ensures.visited

pub labels-preserved-else-is_empty : goal.labels-preserved-else-is_empty
labels-preserved-else-is_empty c =
    let s = c.args.source.now in
    let filled : vec_len c.pop.new.stack ≡ 0 → ⊥ = λ e. true≢false (sym (c.is_empty.ensures ∙ eq-eqb (vec_len c.pop.new.stack) 0 e) ∙ c.if-is_empty.false) in
    record {
      grown = c.in_ok-row.ensures.grown;
      owed = owed_row s.g.now s.doc.now c.args.root c.labels.forest c.labels.is_new c.labels.stack.items c.labels.invariant.owed c.index-key.result.now c.visit.new.forest c.visit.new.missing.items c.pop.new.stack.items c.in_ok-row.row c.in-Some.row (length c.visit.new.missing.items - 1) c.is_none-is_new.result c.in-Some.is c.is_none-is_new.ensures c.in_ok-row.ensures.visited c.pop.ensures.items (omega (arith, c.pop.ensures.long, len_is c.pop.new.stack, filled));
    }

pub labels-preserved : goal.labels-preserved
labels-preserved c =
    let s = c.args.source.now in
    record {
      grown = c.in_ok-row.ensures.grown;
      owed = owed_none s.g.now s.doc.now c.args.root c.labels.forest c.labels.is_new c.labels.stack.items c.labels.invariant.owed c.index-key.result.now c.visit.new.forest c.visit.new.missing.items c.in_ok-row.row c.is_none-is_new.result c.in_default.is c.is_none-is_new.ensures c.in_ok-row.ensures.visited;
    }
