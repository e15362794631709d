use Rattle.std.proofs.Common.{sym, ◌∙◌}
use Rattle.xs_form.proofs.PieceLaws.{instruction_found}
use Rattle.xs_form.proofs.pieces.instruction.Goals as goal

pub returns : goal.returns
returns c = instruction_found c.args.target.now c.args.text.now c.in_ok-body.body.now c.in_ok-body.rest.now c.in_ok-body.ensures (sym c.is_name_text.ensures ∙ c.if-not-is_name_text.false) (sym c.spells_in_any_case.ensures ∙ c.if-spells_in_any_case.false) (sym c.is_apart_text.ensures ∙ c.if-not-is_apart_text.false) (sym c.all_allowed.ensures ∙ c.if-not-all_allowed.false)
