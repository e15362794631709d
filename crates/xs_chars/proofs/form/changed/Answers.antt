use Rattle.std.proofs.Common.{◌∙◌}
use Rattle.std.proofs.lemmas.Result.{IfOk-weaker}
use Rattle.xs_chars.proofs.Ascii.{ascii_in_form}
use Rattle.xs_chars.proofs.Characters.{chars_are}
use Rattle.xs_chars.proofs.form.changed.Goals as goal

pub returns-then-is_ascii-clause-form : goal.returns-then-is_ascii-clause-form
returns-then-is_ascii-clause-form c =
    IfOk-weaker c.ascii_word.result _ _ (λ w h. h ∙ ascii_in_form c.args.form c.args.text.now c.if-is_ascii.ensures.cases) c.ascii_word.ensures.word

pub returns-in-Some-clause-form : goal.returns-in-Some-clause-form
returns-in-Some-clause-form c =
    let spelt = rw c.in-Some.is at c.in_ok-put_into.ensures in
    let are = chars_are c.as_str.result.now _ c.as_str.utf8 (c.as_str.ensures.value ∙ spelt) in
    IfOk-weaker c.word_of-in-Some.result _ _ (λ w h. h ∙ are) c.word_of-in-Some.ensures.word
