use Rattle.std.proofs.Common.{◌≡◌, ◌∙◌, sym, ap, encode_utf8_all}
use Rattle.std.specs.Str.{chars}
use Rattle.std.proofs.lemmas.Str.{encodes-chars}
use Rattle.xs_class.proofs.Chars.{ascii_chars}
use Rattle.xs_sheet.proofs.KindLaws.{text_test}
use Rattle.xs_sheet.proofs.piece.is_this.Goals as goal

pub returns : goal.returns
returns c =
    let plain : chars c.args.word.now ≡ c.args.word.now = ascii_chars c.args.word.now c.requires in
    c.eq.ensures ∙ text_test c.as_str.result.now c.args.word.now c.args.text.now c.args.word.now c.as_str.ensures.spelled (sym (encodes-chars c.args.word.now c.utf8.word) ∙ ap encode_utf8_all plain) c.as_str.ensures.read plain
