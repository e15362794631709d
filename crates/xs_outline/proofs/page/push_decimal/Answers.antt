use Rattle.std.proofs.Common.{◌∙◌}
use Rattle.std.proofs.lemmas.Result.{on_ok_weaker}
use Rattle.xs_outline.specs.Lines.{number_text}
use Rattle.xs_outline.proofs.Decimals.{decimal_is}
use Rattle.xs_outline.proofs.Pages.{page_ascii}
use Rattle.xs_outline.proofs.page.push_decimal.Goals as goal

pub returns : goal.returns
returns c =
    let same = c.format.ensures.text ∙ decimal_is c.args.number c.ranges.number.fits in
    on_ok_weaker _ (page_ascii c.args.page.now c.push_str.new.self c.format.result.now (number_text c.args.number) c.format.ensures.ascii same) c.push_str.ensures.ok
