use Rattle.std.proofs.Common.{List, ℕ, subst}
use Rattle.std.proofs.lemmas.Result.{err_from_is_err_and}
use Rattle.xs_script.specs.Playing.{IsPlayed}
use Rattle.xs_top.proofs.Scripts.{script_stops}
use Rattle.xs_top.proofs.played.played.Goals as goal

pub returns-in_err-answer-clause-stop : goal.returns-in_err-answer-clause-stop
returns-in_err-answer-clause-stop c =
    let fault = err_from_is_err_and c.from_residual-in_err-answer.result c.from_residual-in_err-answer.ensures.1 in
    rw (fault.1, fault.2) (script_stops c.args.bytes.now c.in_ok-script.script _ c.in_ok-script.ensures.text c.in_err-answer.ensures.fault)

pub returns-clause-answer : goal.returns-clause-answer
returns-clause-answer c =
    let read = c.in_ok-script.ensures.text in
    record { utf8 = read.utf8; played = subst (λ (w : List ℕ). IsPlayed c.args.two.now w c.in_ok-answer.answer) read.word c.in_ok-answer.ensures.played }
