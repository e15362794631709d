use Rattle.std.proofs.Common.{sym, subst, arith, List}
use Rattle.xs_sheet.specs.declared.unit.Unit.{Unit}
use Rattle.xs_pair.specs.declared.ill.IllRule.TheVariants.{NameOnce}
use Rattle.xs_pair.specs.Rules.{IsTwice}
use Rattle.xs_pair.specs.Units.{unit_line}
use Rattle.xs_pair.specs.Verdict.{FailsAt, NoneBefore, IsFirstLine, IsLineWhere, order}
use Rattle.xs_pair.proofs.Orders.{among_forth, among_ok}
use Rattle.xs_pair.proofs.outline.Outline.least.Goals as goal

pub least_among-requires-clause-once : goal.least_among-requires-clause-once
least_among-requires-clause-once c = λ is line fails.
    let before : NoneBefore (FailsAt c.args.sheet.now) 4 = subst (λ r. NoneBefore (FailsAt c.args.sheet.now) (order r)) is c.requires.before in
    before NameOnce line (omega arith) (among_forth c.args.sheet.now c.args.self.now NameOnce c.requires.outline line fails)

pub returns-in-Twice : goal.returns-in-Twice
returns-in-Twice c =
    subst (λ r. IsFirstLine (FailsAt c.args.sheet.now r) c.least_twice.result) (sym c.in-Twice.is)
    (subst (λ (us : List Unit). IsFirstLine (IsLineWhere (IsTwice us) unit_line us) c.least_twice.result) c.as_slice.ensures c.least_twice.ensures)

pub returns-in-Undefined : goal.returns-in-Undefined
returns-in-Undefined c = among_ok c.args.sheet.now c.args.self.now c.args.rule c.least_among.result c.in-Undefined.is c.requires.outline c.least_among.ensures
