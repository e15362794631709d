use Rattle.std.proofs.Common.{sym, subst, not}
use Rattle.std.specs.Prelude.{IsTrue, ◌↔◌}
use Rattle.xs_sheet.specs.declared.unit.Unit.{Unit}
use Rattle.xs_sheet.specs.Grammar.{HasRegex}
use Rattle.xs_wf.specs.Units.{IsEmptyUnit}
use Rattle.xs_wf.proofs.Patterns.{empty_test}
use Rattle.xs_wf.proofs.units.is_empty_unit.Goals as goal

pub returns-in-Terminal-clause-ill : goal.returns-in-Terminal-clause-ill
returns-in-Terminal-clause-ill c =
    subst (λ (u : Unit). IsTrue (not c.has_members.result) ↔ IsEmptyUnit u) (sym c.in-Terminal.is)
    (empty_test c.has_members.result c.in-Terminal.pattern c.in-Terminal.regex (subst HasRegex c.in-Terminal.is c.requires) c.has_members.ensures)

pub returns-in-Ignorable-clause-ill : goal.returns-in-Ignorable-clause-ill
returns-in-Ignorable-clause-ill c =
    subst (λ (u : Unit). IsTrue (not c.has_members-in-Ignorable.result) ↔ IsEmptyUnit u) (sym c.in-Ignorable.is)
    (empty_test c.has_members-in-Ignorable.result c.in-Ignorable.pattern c.in-Ignorable.regex (subst HasRegex c.in-Ignorable.is c.requires) c.has_members-in-Ignorable.ensures)
