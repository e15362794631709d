use Rattle.std.proofs.Common.{sym, subst}
use Rattle.xs_chars.proofs.Characters.{bad_at}
use Rattle.xs_chars.specs.Text.{IsUtf8BadAt}
use Rattle.xs_chars.proofs.reading.text_in.Goals as goal

pub returns-in-Err-clause-fault : goal.returns-in-Err-clause-fault
returns-in-Err-clause-fault c = let cases = c.in-Err.ensures.cases in subst (λ n. IsUtf8BadAt c.args.bytes.now n) (sym c.valid_up_to.ensures) (bad_at _ _ cases.0 cases.1)
