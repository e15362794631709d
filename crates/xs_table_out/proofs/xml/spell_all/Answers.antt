use Rattle.std.proofs.Common.{◌∙◌, ℕ, List, string_bytes, arith, ap, subst, sym}
use Rattle.xs_table_out.specs.Spelt.{AreSpeltSoFar, IsSpelt}
use Rattle.xs_table_out.specs.Steps.{text_at}
use Rattle.xs_table_out.proofs.Spellings.{spelt_push, text_read}
use Rattle.xs_table_out.proofs.xml.spell_all.Goals as goal

pub steps-preserved : goal.steps-preserved
steps-preserved c =
    let text = text_read c.args.steps.now c.steps.step-index _ c.deref-step-items.result.now c.deref.result.now c.in-Some.word.now c.deref-step-items.ensures.value c.deref.ensures.value c.steps-test.true c.in-Some.ensures in
    let is = subst (λ (names : List (List ℕ)). IsSpelt names c.in-Some.word.now (string_bytes c.spell.new.text) c.in_ok-spell.field-0) c.in_ok-tags.ensures c.in_ok-spell.ensures.spelt in
    record {
      long = omega (arith, c.in_ok-push.ensures.len, c.steps.invariant.long);
      spelt = spelt_push c.args.names.now c.args.steps.now c.in-Some.word.now (string_bytes c.steps.text) (string_bytes c.spell.new.text) c.steps.all.items c.push.new.self.items c.in_ok-spell.field-0
          c.steps.invariant.spelt c.in_ok-spell.ensures.on is (text ∙ ap (text_at c.args.steps.now) (sym c.steps.invariant.long)) c.in_ok-push.ensures.items;
    }

pub returns-clause-spelt : goal.returns-clause-spelt
returns-clause-spelt c =
    subst (λ (names : List (List ℕ)). AreSpeltSoFar names c.args.steps.now (string_bytes c.steps.text) c.steps.all.items) (sym c.in_ok-tags.ensures) c.steps.invariant.spelt
