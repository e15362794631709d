use Rattle.std.proofs.Common.{◌≡◌, ◌∙◌, ℕ, List, subst, take}
use Rattle.std.specs.Prelude.{IsTrue, ◌↔◌}
use Rattle.std.proofs.lemmas.List.{take_all}
use Rattle.xs_sheet.specs.declared.unit.Unit.{Unit}
use Rattle.xs_pair.specs.Fences.{fence_letters, IsUsed}
use Rattle.xs_pair.specs.Units.{unit_line}
use Rattle.xs_pair.specs.Verdict.{IsFirstLine, IsLineWhere}
use Rattle.xs_pair.proofs.Apart.{letters_next}
use Rattle.xs_pair.proofs.Taken.{take_tested}
use Rattle.xs_pair.proofs.fences.least_used.Goals as goal

pub units-preserved : goal.units-preserved
units-preserved c =
    let us = c.args.units.now in
    let i = c.units.unit-index in
    let u = c.unit-item.result in
    let earlier : c.deref.result.now ≡ fence_letters (take i us) = c.deref.ensures.value ∙ c.units.invariant.letters in
    let test : IsTrue c.in_ok-fails.fails ↔ IsUsed (fence_letters (take i us)) u = subst (λ (ls : List ℕ). IsTrue c.in_ok-fails.fails ↔ IsUsed ls u) earlier c.in_ok-fails.ensures in
    record {
      letters = letters_next us i u c.units.earlier.items c.push_fence_letters.new.out.items c.units-test.true c.unit-item.is c.units.invariant.letters c.in_ok-push_fence_letters.ensures;
      first = take_tested (λ (k : ℕ) (v : Unit). IsUsed (fence_letters (take k us)) v) unit_line us i u c.units.least c.with_line-least.result c.unit_line.result c.in_ok-fails.fails c.units-test.true c.unit-item.is c.unit_line.ensures test c.with_line-least.ensures c.units.invariant.first;
    }

pub returns : goal.returns
returns c = subst (λ us. IsFirstLine (IsLineWhere (λ (k : ℕ) (u : Unit). IsUsed (fence_letters (take k c.args.units.now)) u) unit_line us) c.units.least) (take_all c.units.unit-index c.args.units.now c.units-test.false) c.units.invariant.first
