use Rattle.xs_sheet_laws.proofs.Refusals.{broken_once_lem, ill_once_lem, heavy_once_lem, suspect_once_lem}
use Rattle.xs_sheet_laws.proofs.refused_once.Goals as goal

pub returns-clause-broken : goal.returns-clause-broken
returns-clause-broken c = broken_once_lem

pub returns-clause-ill : goal.returns-clause-ill
returns-clause-ill c = ill_once_lem

pub returns-clause-heavy : goal.returns-clause-heavy
returns-clause-heavy c = heavy_once_lem c.weights_are_exact.ensures.rule

pub returns-clause-suspect : goal.returns-clause-suspect
returns-clause-suspect c = suspect_once_lem
