use Rattle.std.proofs.Common.{◌≡◌, sym, subst, suc, length, arith, length-append}
use Rattle.xs_gram.specs.Building.{NamesAreThere, AreRowStarts}
use Rattle.xs_gram.specs.Places.{rule_places, insides, positions_of}
use Rattle.xs_gram.proofs.Building.{items_few, positions_few, items_step, rest_here, row_step}
use Rattle.xs_gram.proofs.body.Body.push_rule.Goals as goal

pub overflow_cast-dot : goal.overflow_cast-dot
overflow_cast-dot c = omega (arith, c.requires.few, c.items-test.true, items_few c.args.self.now c.args.rule 0 c.args.items.now, length-append c.args.places.now.items (rule_places c.args.self.now c.args.rule 0 c.args.items.now))

pub push_item-requires-clause-few : goal.push_item-requires-clause-few
push_item-requires-clause-few c =
    let few = positions_few c.args.self.now c.args.rule c.items.dot c.args.items.now c.index-items-dot.result c.items.places.items _ c.items-test.true c.index-items-dot.is c.items.invariant.pending in
    omega (arith, few, c.requires.few)

pub items-preserved : goal.items-preserved
items-preserved c = record {
  pending = items_step c.args.self.now c.args.rule c.items.dot c.args.items.now c.index-items-dot.result c.items.places.items c.push_item.new.places.items _ c.items-test.true c.index-items-dot.is c.in_ok-push_item.ensures c.items.invariant.pending;
  rest = (rest_here (NamesAreThere c.args.self.now) c.args.items.now c.items.dot c.index-items-dot.result c.items-test.true c.index-items-dot.is c.items.invariant.rest).1;
  starts = row_step c.items.places.items (insides c.args.rule c.items.dot 0 (positions_of c.args.self.now c.index-items-dot.result)) c.push_item.new.places.items c.args.rule c.items.dot c.len.result c.items.row.items c.push.new.self.items c.in_ok-push_item.ensures (omega (arith, c.len.ensures, c.items.places.ok.0)) c.in_ok-push.ensures.items c.items.invariant.starts;
}

pub overflow_cast-items : goal.overflow_cast-items
overflow_cast-items c = omega (arith, c.requires.few, items_few c.args.self.now c.args.rule 0 c.args.items.now, length-append c.args.places.now.items (rule_places c.args.self.now c.args.rule 0 c.args.items.now))

pub returns-clause-starts : goal.returns-clause-starts
returns-clause-starts c =
    let end : c.items.dot ≡ length c.args.items.now = omega (arith, c.items-test.false, c.items.auto.dot-end) in
    let at_end : AreRowStarts c.items.places.items c.args.rule (length c.args.items.now) c.items.row.items = subst (λ n. AreRowStarts c.items.places.items c.args.rule n c.items.row.items) end c.items.invariant.starts in
    let all = row_step c.items.places.items _ c.push-3.new.self.items c.args.rule (length c.args.items.now) c.len-2.result c.items.row.items c.push-2.new.self.items c.in_ok-push-3.ensures.items (omega (arith, c.len-2.ensures, c.items.places.ok.0)) c.in_ok-push-2.ensures.items at_end in
    subst (λ l. AreRowStarts c.push-3.new.self.items c.args.rule (suc (length c.args.items.now)) l) (sym c.from_vec.ensures) (subst (λ n. AreRowStarts c.push-3.new.self.items c.args.rule n c.push-2.new.self.items) (omega arith) all)
