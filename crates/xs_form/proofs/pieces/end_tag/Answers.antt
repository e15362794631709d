use Rattle.std.proofs.Common.{sym, ◌∙◌}
use Rattle.xs_form.proofs.PieceLaws.{end_found}
use Rattle.xs_form.proofs.pieces.end_tag.Goals as goal

pub returns : goal.returns
returns c = end_found c.args.text.now c.name_run.result.0.now c.name_run.result.1.now c.white_run.result.0.now c.white_run.result.1.now c.in_ok-rest.rest.now c.name_run.ensures c.white_run.ensures c.in_ok-rest.ensures (sym c.is_name_text.ensures ∙ c.if-not-is_name_text.false)
