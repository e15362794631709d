use Rattle.std.proofs.Common.{sym, subst}
use Rattle.std.specs.Prelude.{IsTrue, ◌↔◌}
use Rattle.xs_sheet.specs.declared.unit.Unit.{Unit}
use Rattle.xs_sheet.specs.Grammar.{HasRegex}
use Rattle.xs_pair.specs.Fences.{IsInside}
use Rattle.xs_pair.proofs.Regexes.{inside_test}
use Rattle.xs_pair.proofs.inside.is_inside.Goals as goal

pub returns-in-Terminal : goal.returns-in-Terminal
returns-in-Terminal c =
    subst (λ (u : Unit). IsTrue c.has_some_of.result ↔ IsInside c.args.letters.now u) (sym c.in-Terminal.is)
    (inside_test c.has_some_of.result c.in-Terminal.pattern c.args.letters.now c.in-Terminal.regex (subst HasRegex c.in-Terminal.is c.requires) c.has_some_of.ensures)

pub returns-in-Ignorable : goal.returns-in-Ignorable
returns-in-Ignorable c =
    subst (λ (u : Unit). IsTrue c.has_some_of-in-Ignorable.result ↔ IsInside c.args.letters.now u) (sym c.in-Ignorable.is)
    (inside_test c.has_some_of-in-Ignorable.result c.in-Ignorable.pattern c.args.letters.now c.in-Ignorable.regex (subst HasRegex c.in-Ignorable.is c.requires) c.has_some_of-in-Ignorable.ensures)
