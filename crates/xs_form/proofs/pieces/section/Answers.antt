use Rattle.std.proofs.Common.{sym, ◌∙◌}
use Rattle.xs_form.proofs.PieceLaws.{section_found}
use Rattle.xs_form.proofs.pieces.section.Goals as goal

pub returns : goal.returns
returns c = section_found c.args.text.now c.in_ok-body.body.now c.in_ok-body.rest.now c.in_ok-body.ensures (sym c.all_allowed.ensures ∙ c.if-not-all_allowed.false)
