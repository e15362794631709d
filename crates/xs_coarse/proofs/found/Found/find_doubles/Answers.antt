use Rattle.std.proofs.Common.{◌+◌, arith}
use Rattle.std.proofs.lemmas.Result.{IfOk-weaker}
use Rattle.xs_coarse.proofs.FoundLemmas.{begun, more_for}
use Rattle.xs_coarse.proofs.LayerLemmas.{LooksAt, looks_of, doubles_from}
use Rattle.xs_coarse.proofs.found.Found.find_doubles.Goals as goal

pub close-requires-clause-nets : goal.close-requires-clause-nets
close-requires-clause-nets c = more_for c.args.net.now c.args.net.now c.begin.new.self c.visit.new.self (begun c.args.net.now c.args.net.now c.begin.new.self (c.args.top + 1) (c.args.top + 1) c.in_ok-begin.field-0 c.if-not-branch.false c.in_ok-begin.ensures.ok (omega (arith, c.if-top-len.false, c.len.ensures.states)) (omega (arith, c.if-top-len.false, c.len.ensures.states))) c.visit.ensures.more

pub returns-clause-ok : goal.returns-clause-ok
returns-clause-ok c =
    let looks : LooksAt (c.args.top + 1) (c.args.top + 1) c.begin.new.self = looks_of (c.in_ok-begin.ensures.ok c.if-not-branch.false) in
    IfOk-weaker c.close.result _ _ (λ closed shut yes. doubles_from c.args.labels.now c.args.net.now c.args.top _ looks c.visit.ensures.more c.close.ensures.more (c.never_returns.ensures c.if-not-never_returns.false) c.in_ok-visit.ensures.ok (shut yes)) c.close.ensures.ok
