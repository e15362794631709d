use Rattle.std.proofs.Common.{[], ◌∷◌, ◌++◌, decimal, ◌∙◌, ap, append_assoc}
use Rattle.xs_cert_lines.proofs.Fronts.{on_err, front_none, front_more, front_on}
use Rattle.xs_cert_lines.proofs.line.write_pair.Goals as goal

pub returns-in_err-extend-clause-err : goal.returns-in_err-extend-clause-err
returns-in_err-extend-clause-err c = on_err _ (front_none _ _ _ c.in_err-extend.ensures.err)

pub returns-in_err-push_number-clause-err : goal.returns-in_err-push_number-clause-err
returns-in_err-push_number-clause-err c =
    let first = 32 ∷ decimal c.args.first in
    on_err _ (front_more _ _ ((c.args.text.now ++ first) ++ 32 ∷ decimal c.args.second) (10 ∷ [])
    (front_more _ _ (c.args.text.now ++ first) (32 ∷ decimal c.args.second)
    (front_on c.args.out.now _ _ c.args.text.now first c.in_ok-extend.ensures.ok c.in_err-push_number.ensures.err)))

pub returns-in_err-push_number-2-clause-err : goal.returns-in_err-push_number-2-clause-err
returns-in_err-push_number-2-clause-err c =
    let first = 32 ∷ decimal c.args.first in
    let before = c.in_ok-push_number.ensures.ok ∙ ap (λ z. z ++ first) c.in_ok-extend.ensures.ok ∙ append_assoc c.args.out.now c.args.text.now first in
    on_err _ (front_more _ _ ((c.args.text.now ++ first) ++ 32 ∷ decimal c.args.second) (10 ∷ [])
    (front_on c.args.out.now _ _ (c.args.text.now ++ first) (32 ∷ decimal c.args.second) before c.in_err-push_number-2.ensures.err))
