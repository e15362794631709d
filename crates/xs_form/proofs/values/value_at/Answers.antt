use Rattle.std.proofs.lemmas.Result.{IfOk-weaker}
use Rattle.xs_form.proofs.ValueLaws.{run_so_far, so_far_ends}
use Rattle.xs_form.proofs.values.value_at.Goals as goal

pub returns-in-None : goal.returns-in-None
returns-in-None c =
    let run = c.kept_run.result.0.now in
    let rest = c.kept_run.result.1.now in
    let end = so_far_ends c.args.quote c.args.text.now _ _ _ _ (run_so_far c.args.quote c.args.text.now run rest c.kept_run.ensures) c.in-None.ensures in
    record { symbols = end.0; written = end.1; left = end.2 }

pub returns-in-Some : goal.returns-in-Some
returns-in-Some c =
    let so = run_so_far c.args.quote c.args.text.now c.kept_run.result.0.now c.kept_run.result.1.now c.kept_run.ensures in
    IfOk-weaker c.value_from.result _ _ (λ r from. from c.args.text.now so) c.value_from.ensures
