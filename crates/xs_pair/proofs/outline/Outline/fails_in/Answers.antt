use Rattle.std.proofs.Common.{sym, subst}
use Rattle.std.specs.Prelude.{IfOk, IsTrue, ◌↔◌}
use Rattle.xs_pair.specs.Verdict.{FailsIn, tables_in}
use Rattle.xs_pair.proofs.outline.Outline.fails_in.Goals as goal

pub returns-in-NameOnce : goal.returns-in-NameOnce
returns-in-NameOnce c = subst (λ k. IfOk c.fails_once.result (λ b. IsTrue b ↔ FailsIn k (tables_in c.args.self.now) c.args.slotted.now)) (sym c.in-NameOnce.is) c.fails_once.ensures

pub returns-in-Kind : goal.returns-in-Kind
returns-in-Kind c = subst (λ k. IfOk c.fails_kind.result (λ b. IsTrue b ↔ FailsIn k (tables_in c.args.self.now) c.args.slotted.now)) (sym c.in-Kind.is) c.fails_kind.ensures
