use Rattle.std.proofs.Common.{sym, ◌∙◌}
use Rattle.xs_form.proofs.PieceLaws.{comment_found}
use Rattle.xs_form.proofs.pieces.comment.Goals as goal

pub returns : goal.returns
returns c = comment_found c.args.text.now c.in_ok-body.body.now c.in_ok-body.closing.now c.in_ok-rest.rest.now c.in_ok-body.ensures c.in_ok-rest.ensures (sym c.all_allowed.ensures ∙ c.if-not-all_allowed.false)
