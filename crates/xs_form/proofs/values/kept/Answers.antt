use Rattle.std.proofs.Common.{◌≡◌, ◌==◌, false, ◌∙◌, ap, arith}
use Rattle.std.proofs.lemmas.Bool.Decides.{nat_tests}
use Rattle.xs_form.specs.Values.{is_kept}
use Rattle.xs_form.proofs.ValueLaws.{kept_letter}
use Rattle.xs_form.proofs.values.kept.Goals as goal

pub returns-then-number-lt55296 : goal.returns-then-number-lt55296
returns-then-number-lt55296 c =
    let other : (c.number-number.result == c.args.quote) ≡ false = grind (arith, nat_tests, c.if-number.false, c.number.ensures) in
    kept_letter c.args.quote c.number-number.result other (omega arith) (omega arith) ∙ ap (is_kept c.args.quote) c.number-number.ensures
