use Rattle.std.proofs.Common.{◌∙◌, refl, sym, arith}
use Rattle.std.proofs.lemmas.Bool.{true≢false}
use Rattle.xs_closed.proofs.testing.cut.is_closed_row.Goals as goal

pub returns-in_default : goal.returns-in_default
returns-in_default c = (λ e b m. absurd (true≢false (sym m ∙ c.in_default.ensures.none b (omega arith))), λ p. refl)
