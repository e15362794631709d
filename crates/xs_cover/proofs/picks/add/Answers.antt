use Rattle.std.proofs.Common.{Err, inr, ap, ◌∙◌}
use Rattle.xs_cover.proofs.picks.add.Goals as goal

pub returns-in-Err-Repeated : goal.returns-in-Err-Repeated
returns-in-Err-Repeated c = inr (c.in-Err-Repeated.ensures.err, (c.in-Err-Repeated.field-0-0, (c.add_row.ensures.repeated c.in-Err-Repeated.field-0-0).0 (c.in-Err-Repeated.is ∙ ap Err c.in-Err-Repeated.field-0-is)))
