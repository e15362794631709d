use Rattle.std.proofs.Common.{◌∙◌}
use Rattle.xs_sheet.proofs.KindLaws.{text_test}
use Rattle.xs_sheet.proofs.piece.same_texts.Goals as goal

pub returns : goal.returns
returns c = c.eq.ensures ∙ text_test c.as_str.result.now c.as_str-2.result.now c.args.a.now c.args.b.now c.as_str.ensures.spelled c.as_str-2.ensures.spelled c.as_str.ensures.read c.as_str-2.ensures.read
