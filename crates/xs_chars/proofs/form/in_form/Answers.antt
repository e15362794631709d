use Rattle.std.proofs.Common.{◌≡◌, ◌∙◌, ap, rules, encode_utf8_all}
use Rattle.std.specs.Str.{chars}
use Rattle.std.proofs.lemmas.Str.{chars-encodes}
use Rattle.std.proofs.lemmas.Result.{IfOk-weaker}
use Rattle.xs_chars.specs.Text.{in_form}
use Rattle.xs_chars.proofs.form.in_form.Goals as goal

pub returns-clause-form : goal.returns-clause-form
returns-clause-form c =
    let same : c.unwrap-text.result.now ≡ c.in_ok-bytes.bytes.items = search rules in
    let are : chars c.unwrap-text.result.now ≡ c.args.word.now = ap chars (same ∙ c.in_ok-bytes.ensures ∙ ap encode_utf8_all c.as_slice.ensures) ∙ chars-encodes c.args.word.now c.requires in
    IfOk-weaker c.formed.result _ _ (λ w h. h ∙ ap (λ l. in_form c.args.form l) are) c.formed.ensures.form
