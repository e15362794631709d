use Rattle.std.proofs.Common.{OnOk, subst}
use Rattle.xs_gram.specs.Grammar.{Grammar}
use Rattle.xs_check_laws.specs.Acceptance.{IsLight}
use Rattle.xs_cert.proofs.Weights.{text_weighty}
use Rattle.xs_cert.proofs.weighing.weigh_text.Goals as goal

pub returns-clause-light : goal.returns-clause-light
returns-clause-light c = subst (λ (g : Grammar). OnOk c.weigh_side.result (IsLight g)) c.gram.ensures c.weigh_side.ensures.light

pub returns-clause-fault : goal.returns-clause-fault
returns-clause-fault c = text_weighty c.args.two.now c.gram.result.now c.weigh_side.result c.gram.ensures c.weigh_side.ensures.fault
