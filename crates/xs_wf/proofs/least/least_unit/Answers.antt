use Rattle.std.proofs.Common.{ℕ, subst}
use Rattle.std.proofs.lemmas.List.{take_all}
use Rattle.xs_sheet.specs.declared.unit.Unit.{Unit}
use Rattle.xs_pair.specs.Units.{unit_line}
use Rattle.xs_pair.specs.Verdict.{IsFirstLine, IsLineWhere}
use Rattle.xs_pair.proofs.Added.{has_regex}
use Rattle.xs_pair.proofs.Places.{get_at}
use Rattle.xs_pair.proofs.Taken.{take_tested}
use Rattle.xs_wf.specs.Units.{IsIllUnit, IsFineUnit, AreFine}
use Rattle.xs_wf.proofs.Members.{fine_next}
use Rattle.xs_wf.proofs.least.least_unit.Goals as goal

pub is_ill_unit-requires : goal.is_ill_unit-requires
is_ill_unit-requires c = has_regex c.args.units.now c.units.unit-index c.unit-item.result c.requires (get_at c.args.units.now c.units.unit-index c.unit-item.result c.units-test.true c.unit-item.is)

pub units-preserved : goal.units-preserved
units-preserved c = record {
  line = take_tested (λ (k : ℕ) (u : Unit). IsIllUnit c.args.rule u) unit_line c.args.units.now c.units.unit-index c.unit-item.result c.units.least c.with_line-least.result c.unit_line.result c.in_ok-fails.fails c.units-test.true c.unit-item.is c.unit_line.ensures c.in_ok-fails.ensures.ill c.with_line-least.ensures c.units.invariant.line;
  fine = fine_next (IsFineUnit c.args.rule) c.args.units.now c.units.unit-index c.unit-item.result c.units.least c.with_line-least.result c.unit_line.result c.in_ok-fails.fails c.units-test.true c.unit-item.is c.in_ok-fails.ensures.fine c.with_line-least.ensures c.units.invariant.fine;
}

pub returns-clause-ill : goal.returns-clause-ill
returns-clause-ill c = subst (λ us. IsFirstLine (IsLineWhere (λ k u. IsIllUnit c.args.rule u) unit_line us) c.units.least) (take_all c.units.unit-index c.args.units.now c.units-test.false) c.units.invariant.line

pub returns-clause-fine : goal.returns-clause-fine
returns-clause-fine c = λ none. subst (λ us. AreFine c.args.rule us) (take_all c.units.unit-index c.args.units.now c.units-test.false) (c.units.invariant.fine none)
