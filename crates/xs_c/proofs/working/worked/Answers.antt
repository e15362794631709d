use Rattle.std.proofs.Common.{ℕ, List, ap, subst, ◌∙◌}
use Rattle.xs_pair.specs.Grammars.{Pair}
use Rattle.xs_top.specs.declared.stop.Stop.{Stop}
use Rattle.xs_top.specs.Stops.{StopsBy}
use Rattle.xs_c.specs.Answers.{IsRefusal}
use Rattle.xs_c.specs.Works.{IsUndone, done, undone}
use Rattle.xs_c.proofs.working.worked.Goals as goal

pub returns-in-Ok : goal.returns-in-Ok
returns-in-Ok c = done c.in-Ok.bytes c.in-Ok.ensures.answer c.tell.ensures

pub returns-in-Err-Refused : goal.returns-in-Err-Refused
returns-in-Err-Refused c = undone c.in-Err-Refused.outcome (subst (λ (s : Stop). StopsBy (IsUndone c.args.kept.now c.args.work c.args.document.now) s) c.in-Err-Refused.field-0-is c.in-Err-Refused.ensures.stop)
    (subst (λ (names : List (List ℕ)). IsRefusal names c.in-Err-Refused.outcome c.args.answer.now c.refuse.new.answer c.refuse.result) (c.names.ensures ∙ ap (λ (p : Pair). p.names) c.two.ensures.value) c.refuse.ensures)
