use Rattle.std.proofs.Common.{◌≡◌, ◌∙◌, sym, ap, encode_utf8_all}
use Rattle.std.specs.String.{string_bytes}
use Rattle.std.proofs.lemmas.Str.{encodes-chars, IsUtf8-string_bytes}
use Rattle.xs_class.proofs.text.Text.into_bytes.Goals as goal

pub returns : goal.returns
returns c =
    let same : c.into_bytes.result.items ≡ string_bytes c.self.inside.text = ap (λ v. v.items) c.into_bytes.ensures.value in
    same ∙ sym (encodes-chars _ (IsUtf8-string_bytes c.self.inside.text)) ∙ ap encode_utf8_all c.self.view_is
