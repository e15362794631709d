use Rattle.std.proofs.Common.{arith, rules}
use Rattle.std.proofs.lemmas.Result.{IfOk-weaker}
use Rattle.xs_coarse.proofs.FoundLemmas.{begun, more_for}
use Rattle.xs_coarse.proofs.LayerLemmas.{LooksAt, looks_of, rests_from}
use Rattle.xs_coarse.proofs.Walks.{found_by, return_target}
use Rattle.xs_coarse.proofs.found.Found.find_rests.Goals as goal

pub close-requires-clause-nets : goal.close-requires-clause-nets
close-requires-clause-nets c = more_for c.args.net.now c.args.net.now c.begin.new.self c.visit_each.new.self (begun c.args.net.now c.args.net.now c.begin.new.self c.len-states.result c.len-states.result c.in_ok-begin.field-0 c.if-not-branch.false c.in_ok-begin.ensures.ok (omega (arith, c.len-states.ensures.states)) (omega (arith, c.len-states.ensures.states))) c.visit_each.ensures.more

pub returns-clause-ok : goal.returns-clause-ok
returns-clause-ok c =
    let looks : LooksAt c.args.net.now.states c.args.net.now.states c.begin.new.self = rw (← c.len-states.ensures.states) (looks_of (c.in_ok-begin.ensures.ok c.if-not-branch.false)) in
    let there = found_by (return_target c.args.here) c.in_ok-visit_each.ensures.ok (λ p o given. search rules) in
    IfOk-weaker c.close.result _ _ (λ closed shut yes. rests_from c.args.labels.now c.args.net.now c.args.here c.args.last c.args.middles.now c.len-states.ensures.within c.requires.here c.requires.inside looks c.visit_each.ensures.more c.close.ensures.more there (rw c.new.ensures at (shut yes))) c.close.ensures.ok
