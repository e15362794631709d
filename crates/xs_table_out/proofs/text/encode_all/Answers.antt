use Rattle.std.proofs.Common.{◌≡◌, ◌∙◌, arith, ap, sym, length}
use Rattle.xs_table_out.specs.Steps.{text_at}
use Rattle.xs_table_out.proofs.Spellings.{encoded_push, text_read}
use Rattle.xs_table_out.proofs.text.encode_all.Goals as goal

pub steps-preserved : goal.steps-preserved
steps-preserved c =
    let begins : c.len-begin.result ≡ length c.steps.bytes.items = omega (arith, c.len-begin.ensures) in
    let ends : c.len-end.result ≡ length c.append_utf8.new.bytes.items = omega (arith, c.len-end.ensures) in
    let text = text_read c.args.steps.now c.steps.step-index _ c.deref-step-items.result.now c.deref.result.now c.in-Some.word.now c.deref-step-items.ensures.value c.deref.ensures.value c.steps-test.true c.in-Some.ensures in
    record {
      long = omega (arith, c.in_ok-push.ensures.len, c.steps.invariant.long);
      encoded = encoded_push c.args.steps.now c.in-Some.word.now c.steps.bytes.items c.append_utf8.new.bytes.items c.steps.all.items c.push.new.self.items record { begin = c.len-begin.result; end = c.len-end.result }
          c.steps.invariant.encoded (c.in_ok-append_utf8.ensures.put c.if-not-branch.false) begins ends (text ∙ ap (text_at c.args.steps.now) (sym c.steps.invariant.long)) c.in_ok-push.ensures.items;
    }
