use Rattle.std.proofs.Common.{ℕ, List, Some, ap, subst, ◌∙◌}
use Rattle.xs_pair.specs.Grammars.{Pair}
use Rattle.xs_talk.specs.declared.outcome.Outcome.TheVariants.{Done}
use Rattle.xs_c.specs.Answers.{IsTold, IsRefusal}
use Rattle.xs_top.specs.declared.stop.Stop.{Stop}
use Rattle.xs_top.specs.Checks.{IsUnsure}
use Rattle.xs_top.specs.Stops.{StopsBy}
use Rattle.xs_c.specs.Sheets.{IsNoSheet, no_sheet, not_accepted, opened}
use Rattle.xs_c.proofs.opening.open.Goals as goal

pub returns-in-Err-Refused : goal.returns-in-Err-Refused
returns-in-Err-Refused c = no_sheet c.in-Err-Refused.outcome c.take.ensures.closed (subst (λ (s : Stop). StopsBy (IsNoSheet c.args.bytes.now) s) c.in-Err-Refused.field-0-is c.in-Err-Refused.ensures.stop)
    (subst (λ (names : List (List ℕ)). IsRefusal names c.in-Err-Refused.outcome c.args.answer.now c.refuse.new.answer c.refuse.result) c.in-Ok.ensures c.refuse.ensures)

pub returns-in-Err-Refused-check : goal.returns-in-Err-Refused-check
returns-in-Err-Refused-check c = not_accepted c.in-Ok-pair.two c.in-Err-Refused-check.outcome c.take.ensures.closed c.in-Ok-pair.ensures.pair (subst (λ (s : Stop). StopsBy (IsUnsure c.in-Ok-pair.two) s) c.in-Err-Refused-check.field-0-is c.in-Err-Refused-check.ensures.stop)
    (subst (λ (names : List (List ℕ)). IsRefusal names c.in-Err-Refused-check.outcome c.args.answer.now c.refuse-in-Err-Refused-check.new.answer c.refuse-in-Err-Refused-check.result) c.names.ensures c.refuse-in-Err-Refused-check.ensures)

pub returns : goal.returns
returns c = opened c.in-Ok-pair.two (c.opened.ensures ∙ ap (λ (p : Pair). Some p) (c.in-Ok-new.ensures.ok ∙ c.of.ensures)) c.in-Ok-pair.ensures.pair c.in-Ok-check.ensures.sure
    (subst (λ (bytes : List ℕ). IsTold bytes Done c.tell.new.answer c.tell.result) c.new-2.ensures c.tell.ensures)
