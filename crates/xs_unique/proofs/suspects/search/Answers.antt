use Rattle.std.proofs.Common.{subst}
use Rattle.xs_gram.specs.Grammar.{Grammar}
use Rattle.xs_check_laws.specs.Freedom.{HasNoHorizontal}
use Rattle.xs_searches.proofs.First.{at_none}
use Rattle.xs_unique.proofs.suspects.search.Goals as goal

pub returns-clause-clear : goal.returns-clause-clear
returns-clause-clear c = (
  at_none c.in_ok-found.found c.in_default.not-Some c.in_ok-found.ensures.none,
  subst (λ (g : Grammar). HasNoHorizontal g) c.in_ok-found.ensures.same (at_none c.in_ok-found-2.found c.in_default-found.not-Some c.in_ok-found-2.ensures.none),
)
