use Rattle.std.proofs.Common.{arith}
use Rattle.xs_pair.specs.declared.names.Sort.TheVariants as S
use Rattle.xs_pair.specs.Rules.{IsTwice}
use Rattle.xs_pair.specs.Units.{unit_line}
use Rattle.std.specs.Prelude.{IsTrue, ◌↔◌}
use Rattle.xs_pair.proofs.Taken.{taken_twice, count_next, take_tested, both_ways}
use Rattle.xs_pair.proofs.outline.Outline.least_twice.Goals as goal

pub units-preserved : goal.units-preserved
units-preserved c =
    let us = c.args.units.now in
    let p = c.units.unit-index in
    let u = c.unit-item.result in
    let before = c.units.invariant in
    let test : IsTrue c.is_taken-fails.result ↔ IsTwice us p u = both_ways c.is_taken-fails.ensures (taken_twice us c.args.self.now p c.units.named c.units.lexical u c.requires.units c.requires.lexical before.names before.count) in record {
      few = omega (arith, c.with_unit-lexical.ensures.few, before.few);
      fewer = omega (arith, c.with_unit-named.ensures.few, before.fewer);
      names = count_next S.Any us p u c.units.named c.with_unit-named.result c.units-test.true c.unit-item.is before.names c.with_unit-named.ensures.count;
      count = count_next S.Lexical us p u c.units.lexical c.with_unit-lexical.result c.units-test.true c.unit-item.is before.count c.with_unit-lexical.ensures.count;
      first = take_tested (IsTwice us) unit_line us p u c.units.least c.with_line-least.result c.unit_line.result c.is_taken-fails.result c.units-test.true c.unit-item.is c.unit_line.ensures test c.with_line-least.ensures before.first;
    }
