use Rattle.std.proofs.Common.{◌≡◌, [], length, ap, arith, rules}
use Rattle.xs_listing.proofs.Preparing.{made_next}
use Rattle.xs_listing.proofs.nodes.number_rows.Goals as goal

pub rows-init : goal.rows-init
rows-init c =
    let none : c.in_ok-numbers.numbers.items ≡ [] = c.in_ok-numbers.ensures.items in
    let long : length c.in_ok-numbers.numbers.items ≡ 0 = ap length none in
    record { long = long; made = λ r lt mark whole. absurd (omega arith) }

pub number_row-requires-clause-there : goal.number_row-requires-clause-there
number_row-requires-clause-there c =
    let same = ap length c.deref.ensures.value in
    let long = c.rows.invariant.long in
    omega arith

pub number_row-requires-clause-made : goal.number_row-requires-clause-made
number_row-requires-clause-made c = rw c.deref.ensures.value c.rows.invariant.made

pub rows-preserved : goal.rows-preserved
rows-preserved c = record {
  long = search rules;
  made = made_next c.args.g.now c.args.doc.now c.args.forest.now c.requires.right c.args.marks.now c.rows.builder c.number_row.new.builder c.rows.numbers.items c.push.new.self.items c.in_ok-number.number c.rows.invariant.made c.in_ok-number.ensures.extends (rw c.deref.ensures.value at c.in_ok-number.ensures.made) c.in_ok-push.ensures.items;
}

pub returns-clause-long : goal.returns-clause-long
returns-clause-long c =
    let long = c.rows.invariant.long in
    let all = c.requires.long in
    omega arith

pub returns-clause-made : goal.returns-clause-made
returns-clause-made c = c.rows.invariant.made
