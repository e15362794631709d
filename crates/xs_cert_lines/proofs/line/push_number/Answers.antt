use Rattle.xs_cert_lines.proofs.Fronts.{on_err, front_none}
use Rattle.xs_cert_lines.proofs.line.push_number.Goals as goal

pub returns-in_err-push-clause-err : goal.returns-in_err-push-clause-err
returns-in_err-push-clause-err c = on_err _ (front_none _ _ _ c.in_err-push.ensures.err)
