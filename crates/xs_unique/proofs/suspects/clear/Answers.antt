use Rattle.std.proofs.Common.{IfErr, OnOk, subst}
use Rattle.xs_gram.specs.Grammar.{Grammar}
use Rattle.xs_check_laws.specs.Acceptance.{HasNoSuspect}
use Rattle.xs_unique.specs.Reasons.{IsUnclear}
use Rattle.xs_unique.proofs.suspects.clear.Goals as goal

pub returns-clause-clear : goal.returns-clause-clear
returns-clause-clear c = subst (λ (g : Grammar). OnOk c.search.result (HasNoSuspect g)) c.in_ok-searches.ensures c.search.ensures.clear

pub returns-clause-fault : goal.returns-clause-fault
returns-clause-fault c = subst (λ (g : Grammar). IfErr c.search.result (IsUnclear c.args.side g)) c.in_ok-searches.ensures c.search.ensures.fault
