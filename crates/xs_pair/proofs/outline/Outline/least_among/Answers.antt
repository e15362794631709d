use Rattle.std.proofs.Common.{◌≡◌, ◌∙◌, ap, subst, refl, Some, ℕ, slice_get}
use Rattle.std.proofs.Common.{take}
use Rattle.std.proofs.lemmas.List.{take_all}
use Rattle.xs_pair.specs.declared.production.Rule.{Rule}
use Rattle.xs_pair.specs.Verdict.{FailsIn, FailsAmong, IsFirstLine, tables_in}
use Rattle.xs_pair.proofs.Places.{get_at}
use Rattle.xs_pair.proofs.Taken.{take_tested}
use Rattle.xs_pair.proofs.outline.Outline.least_among.Goals as goal

pub fails_in-requires-clause-once : goal.fails_in-requires-clause-once
fails_in-requires-clause-once c = λ is once. c.requires.once is c.rule-item.result.line
    (c.rules.rule-index, c.rule-item.result, subst (λ rs. slice_get rs c.rules.rule-index ≡ Some c.rule-item.result) c.as_slice-rules.ensures.value (get_at c.as_slice-rules.result.now c.rules.rule-index c.rule-item.result c.rules-test.true c.rule-item.is), once, refl)

pub rules-preserved : goal.rules-preserved
rules-preserved c =
    take_tested (λ (k : ℕ) (r : Rule). FailsIn c.args.kind (tables_in c.args.self.now) r) (λ (r : Rule). r.line) c.as_slice-rules.result.now c.rules.rule-index c.rule-item.result c.rules.least c.with_line-least.result c.rule.result.now.line c.in_ok-fails.fails c.rules-test.true c.rule-item.is (ap (λ (r : Rule). r.line) c.rule.ensures) c.in_ok-fails.ensures c.with_line-least.ensures c.rules.invariant

pub returns : goal.returns
returns c =
    let whole : take c.rules.rule-index c.as_slice-rules.result.now ≡ c.args.self.now.rules.items = take_all _ _ c.rules-test.false ∙ c.as_slice-rules.ensures.value in
    subst (λ rs. IsFirstLine (FailsAmong (tables_in c.args.self.now) rs c.args.kind) c.rules.least) whole c.rules.invariant
