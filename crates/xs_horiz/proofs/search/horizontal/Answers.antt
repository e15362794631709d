use Rattle.std.proofs.Common.{IfNone, subst}
use Rattle.xs_gram.specs.Grammar.{Grammar}
use Rattle.xs_check_laws.specs.Freedom.{HasNoHorizontal}
use Rattle.xs_horiz.proofs.search.horizontal.Goals as goal

pub returns-clause-none : goal.returns-clause-none
returns-clause-none c = subst (λ (g : Grammar). IfNone c.in_ok-found.found (HasNoHorizontal g)) c.in_ok-searches.ensures c.in_ok-found.ensures.none
