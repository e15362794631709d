use Rattle.std.proofs.Common.{◌+◌, arith, rules}
use Rattle.std.proofs.lemmas.Result.{IfOk-weaker}
use Rattle.xs_coarse.proofs.FoundLemmas.{begun, more_for}
use Rattle.xs_coarse.proofs.LayerLemmas.{LooksAt, looks_of, turns_from}
use Rattle.xs_coarse.proofs.Walks.{found_by, turn_target}
use Rattle.xs_coarse.proofs.found.Found.find_turns.Goals as goal

pub close_slips-requires-clause-nets : goal.close_slips-requires-clause-nets
close_slips-requires-clause-nets c = more_for c.args.net.now c.args.net.now c.begin.new.self c.visit_each.new.self (begun c.args.net.now c.args.net.now c.begin.new.self (c.args.here + 1) c.len-states.result c.in_ok-begin.field-0 c.if-not-branch.false c.in_ok-begin.ensures.ok (omega (arith, c.requires.here)) (omega (arith, c.len-states.ensures.states))) c.visit_each.ensures.more

pub returns-clause-ok : goal.returns-clause-ok
returns-clause-ok c =
    let looks : LooksAt (c.args.here + 1) c.args.net.now.states c.begin.new.self = rw (← c.len-states.ensures.states) (looks_of (c.in_ok-begin.ensures.ok c.if-not-branch.false)) in
    let there = found_by (turn_target c.args.here) c.in_ok-visit_each.ensures.ok (λ p o given. search rules) in
    IfOk-weaker c.close_slips.result _ _ (λ closed shut yes. turns_from c.args.net.now c.args.here c.args.doubles.now c.requires.here looks c.visit_each.ensures.more c.close_slips.ensures.more there (shut yes)) c.close_slips.ensures.ok
