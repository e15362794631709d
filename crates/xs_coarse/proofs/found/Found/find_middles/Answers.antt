use Rattle.std.proofs.Common.{◌+◌, arith}
use Rattle.std.proofs.lemmas.Result.{IfOk-weaker}
use Rattle.xs_coarse.proofs.FoundLemmas.{begun, more_for}
use Rattle.xs_coarse.proofs.LayerLemmas.{LooksAt, looks_of, middles_from}
use Rattle.xs_coarse.proofs.found.Found.find_middles.Goals as goal

pub close-requires-clause-nets : goal.close-requires-clause-nets
close-requires-clause-nets c = more_for c.args.net.now c.args.net.now c.begin.new.self c.seed_steps.new.self (begun c.args.net.now c.args.net.now c.begin.new.self (c.args.here + 1) c.len-states.result c.in_ok-begin.field-0 c.if-not-branch.false c.in_ok-begin.ensures.ok (omega (arith, c.requires.here)) (omega (arith, c.len-states.ensures.states))) c.seed_steps.ensures.more

pub returns-clause-ok : goal.returns-clause-ok
returns-clause-ok c =
    let looks : LooksAt (c.args.here + 1) c.args.net.now.states c.begin.new.self = rw (← c.len-states.ensures.states) (looks_of (c.in_ok-begin.ensures.ok c.if-not-branch.false)) in
    IfOk-weaker c.close.result _ _ (λ closed shut yes. middles_from c.args.labels.now c.args.net.now c.args.here c.args.turns.now _ looks c.seed_steps.ensures.more c.close.ensures.more c.in_ok-seed_steps.ensures.ok (shut yes)) c.close.ensures.ok
