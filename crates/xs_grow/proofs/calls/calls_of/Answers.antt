use Rattle.std.proofs.Common.{◌≡◌, ◌+◌, ℕ, suc, length, List, sym, subst, arith}
use Rattle.xs_grow.specs.declared.call.Call.{Call}
use Rattle.xs_grow.specs.Lists.{HasAllOf}
use Rattle.xs_grow.specs.Candidates.{CallIn}
use Rattle.xs_grow.proofs.Gathering.{calls_none, calls_more}
use Rattle.xs_grow.proofs.calls.calls_of.Goals as goal

pub marks-init : goal.marks-init
marks-init c = subst (λ (z : List (Call × ℕ)). HasAllOf (CallIn c.args.wholes.now 0) z) (sym c.new-calls.ensures) (calls_none c.args.wholes.now)

pub marks-preserved : goal.marks-preserved
marks-preserved c =
    let marks = c.args.wholes.now in
    let t = c.marks.t in
    let key = c.at-number.result.0 in
    let one : t + 1 ≡ suc t = omega arith in
    subst (λ (z : ℕ). HasAllOf (CallIn marks z) c.push_call.new.calls) (sym one) (calls_more marks t key.what key.start key.end c.at-number.result.1 c.marks.calls c.push_call.new.calls c.at-number.ensures c.in_ok-push_call.ensures c.marks.invariant)

pub returns : goal.returns
returns c =
    let marks = c.args.wholes.now in
    let all : c.marks.t ≡ length marks = omega arith in
    subst (λ (z : ℕ). HasAllOf (CallIn marks z) c.marks.calls) all c.marks.invariant
