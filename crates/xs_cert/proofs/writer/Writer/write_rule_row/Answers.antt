use Rattle.std.proofs.Common.{◌≡◌, ◌<◌, suc, length, map, take, ap, sym, ◌∙◌, subst, arith, List}
use Rattle.std.proofs.lemmas.List.{take_all}
use Rattle.xs_meet.specs.Closed.{Marked}
use Rattle.xs_closed.specs.Rows.{marked}
use Rattle.xs_cert_laws.specs.Blocks.{Head, for_rules}
use Rattle.xs_cert_laws.specs.Certificates.{rule_heads}
use Rattle.xs_cert.specs.Heads.{is_of_one}
use Rattle.xs_cert.specs.Writing.{AddsBlocks}
use Rattle.xs_cert.proofs.Ranges.{Passes, passed}
use Rattle.xs_cert.proofs.Adding.{adds_next}
use Rattle.xs_cert.proofs.writer.Writer.write_rule_row.Goals as goal

pub write_rules-requires-clause-order : goal.write_rules-requires-clause-order
write_rules-requires-clause-order c =
    let g = c.args.source.site.g.now in
    let within : c.others.at < length c.rule_partners.new.partners.items = omega (arith, c.others-test.true, c.len-at-end.ensures, c.rule_partners.new.partners.ok) in
    let found = passed (is_of_one g c.args.rule) (suc c.args.rule) (length g.rules) c.rule_partners.new.partners.items c.others.at c.index.result.now c.in_ok-rule_partners.ensures within c.index.ensures in
    omega (arith, found.first)

pub write_rules-requires-clause-other : goal.write_rules-requires-clause-other
write_rules-requires-clause-other c =
    let g = c.args.source.site.g.now in
    let within : c.others.at < length c.rule_partners.new.partners.items = omega (arith, c.others-test.true, c.len-at-end.ensures, c.rule_partners.new.partners.ok) in
    let found = passed (is_of_one g c.args.rule) (suc c.args.rule) (length g.rules) c.rule_partners.new.partners.items c.others.at c.index.result.now c.in_ok-rule_partners.ensures within c.index.ensures in
    omega (arith, found.first, found.last)

pub write_rules-requires-clause-one : goal.write_rules-requires-clause-one
write_rules-requires-clause-one c =
    let g = c.args.source.site.g.now in
    let within : c.others.at < length c.rule_partners.new.partners.items = omega (arith, c.others-test.true, c.len-at-end.ensures, c.rule_partners.new.partners.ok) in
    (passed (is_of_one g c.args.rule) (suc c.args.rule) (length g.rules) c.rule_partners.new.partners.items c.others.at c.index.result.now c.in_ok-rule_partners.ensures within c.index.ensures).yes

pub others-preserved : goal.others-preserved
others-preserved c =
    let source = c.args.source in
    let within : c.others.at < length c.rule_partners.new.partners.items = omega (arith, c.others-test.true, c.len-at-end.ensures, c.rule_partners.new.partners.ok) in
    record {
      nets = c.write_rules.ensures.nets;
      adds = adds_next source.site.g.now source.nest.now (Marked (marked source.related.now)) (for_rules c.args.rule) c.rule_partners.new.partners.items c.others.at c.index.result.now within c.index.ensures c.others.invariant.adds c.in_ok-write_rules.ensures.adds;
    }

pub returns-clause-adds : goal.returns-clause-adds
returns-clause-adds c =
    let source = c.args.source in
    let items = c.rule_partners.new.partners.items in
    let all : take c.others.at items ≡ items = take_all c.others.at items (omega (arith, c.others-test.false, c.len-at-end.ensures, c.rule_partners.new.partners.ok)) in
    let are : map (for_rules c.args.rule) (take c.others.at items) ≡ rule_heads source.site.g.now c.args.rule = ap (map (for_rules c.args.rule)) (all ∙ c.in_ok-rule_partners.ensures) in
    subst (λ (hs : List Head). AddsBlocks source.site.g.now source.nest.now (Marked (marked source.related.now)) hs c.args.self.now.out c.others.self.out) are c.others.invariant.adds
