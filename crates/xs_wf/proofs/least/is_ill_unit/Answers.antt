use Rattle.std.proofs.Common.{sym, subst}
use Rattle.std.specs.Prelude.{IfOk, IsTrue, ◌↔◌}
use Rattle.xs_wf.specs.Units.{IsIllUnit}
use Rattle.xs_wf.proofs.least.is_ill_unit.Goals as goal

pub returns-in-Normal-clause-ill : goal.returns-in-Normal-clause-ill
returns-in-Normal-clause-ill c = subst (λ r. IfOk c.is_unmatched_unit.result (λ b. IsTrue b ↔ IsIllUnit r c.args.unit.now)) (sym c.in-Normal.is) c.is_unmatched_unit.ensures.ill
