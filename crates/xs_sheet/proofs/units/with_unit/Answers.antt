use Rattle.std.proofs.Common.{List, subst, sym}
use Rattle.xs_sheet.specs.declared.unit.Unit.{Unit}
use Rattle.xs_sheet.specs.Grammar.{HaveRegexes}
use Rattle.xs_sheet.proofs.ContentLaws.{regexes_push}
use Rattle.xs_sheet.proofs.units.with_unit.Goals as goal

pub returns-clause-regexes : goal.returns-clause-regexes
returns-clause-regexes c = subst (λ (z : List Unit). HaveRegexes z) (sym c.in_ok-push.ensures.items) (regexes_push c.args.head.units.items c.args.unit c.requires.head c.requires.unit)
