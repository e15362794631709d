use Rattle.std.proofs.Common.{◌∙◌, ap, arith}
use Rattle.xs_form.specs.State.{is_bare}
use Rattle.xs_form.proofs.BareLaws.{bare_letter}
use Rattle.xs_form.proofs.runs.bare.Goals as goal

pub returns-then-number-lt55296 : goal.returns-then-number-lt55296
returns-then-number-lt55296 c = bare_letter c.number-number.result (omega arith) (omega arith) ∙ ap is_bare c.number-number.ensures
