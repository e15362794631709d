use Rattle.std.proofs.Common.{sym, subst, not}
use Rattle.std.specs.Prelude.{IsTrue, ◌↔◌}
use Rattle.xs_regex.specs.Matches.{Matches}
use Rattle.xs_sheet.specs.declared.unit.Unit.{Unit}
use Rattle.xs_sheet.specs.Grammar.{HasRegex}
use Rattle.xs_wf.specs.Units.{IsUnmatchedUnit}
use Rattle.xs_wf.proofs.Patterns.{pattern_size, unmatched_test}
use Rattle.xs_wf.proofs.units.is_unmatched_unit.Goals as goal

pub matches-requires : goal.matches-requires
matches-requires c = pattern_size c.in-Ignorable.pattern c.in-Ignorable.regex (subst HasRegex c.in-Ignorable.is c.requires)

pub returns-in_ok-fits-in-Ignorable-clause-ill : goal.returns-in_ok-fits-in-Ignorable-clause-ill
returns-in_ok-fits-in-Ignorable-clause-ill c =
    let fits = c.in_ok-fits-in-Ignorable.fits in
    subst (λ (u : Unit). IsTrue (not fits) ↔ IsUnmatchedUnit u) (sym c.in-Ignorable.is)
    (unmatched_test fits c.in-Ignorable.pattern c.in-Ignorable.normal c.in-Ignorable.regex (subst HasRegex c.in-Ignorable.is c.requires)
    (subst (λ w. IsTrue fits ↔ Matches c.in-Ignorable.regex w) c.in_ok-word-in-Ignorable.ensures c.in_ok-fits-in-Ignorable.ensures))
