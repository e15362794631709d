use Rattle.std.proofs.Common.{◌≡◌, MatchOption, ℕ, List, map, string_bytes, subst}
use Rattle.xs_talk.specs.declared.outcome.Outcome.TheVariants.{Usage}
use Rattle.xs_c.specs.Answers.{IsRefusal}
use Rattle.xs_c.specs.Runs.{IsRan, HasNoText, said, no_text, ran}
use Rattle.xs_c.proofs.Texts.{same_words}
use Rattle.xs_c.proofs.running.xsugar_run.Goals as goal

pub returns-in-Ok-run_on : goal.returns-in-Ok-run_on
returns-in-Ok-run_on c = let r = c.in-Ok-run_on.ran in ran r.outcome r.written r.noted
    (subst (λ (words : List (List ℕ)). IsRan words c.args.sheet.now c.args.certificate.now c.args.document.now r.outcome r.written r.noted)
    (same_words string_bytes _ _ _ c.deref.ensures.value (subst (λ o. MatchOption o (HasNoText (said c.args.words.now)) (λ all. map string_bytes all.items ≡ said c.args.words.now)) c.in-Ok-Some.field-0-is c.in-Ok-Some.ensures))
    c.in-Ok-run_on.ensures) c.ended.ensures

pub returns-in-Ok-None : goal.returns-in-Ok-None
returns-in-Ok-None c = no_text (subst (λ o. MatchOption o (HasNoText (said c.args.words.now)) (λ all. map string_bytes all.items ≡ said c.args.words.now)) c.in-Ok-None.field-0-is c.in-Ok-None.ensures)
    (subst (λ (names : List (List ℕ)). IsRefusal names Usage c.args.answer.now c.refuse.new.answer c.refuse.result) c.in-Ok.ensures c.refuse.ensures)
