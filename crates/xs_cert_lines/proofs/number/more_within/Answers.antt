use Rattle.std.proofs.Common.{◌≤◌, ◌^◌, drop, sym, ◌∙◌, arith}
use Rattle.xs_cert_lines.proofs.Digits.{too_great, digits_go_on, feed_next}
use Rattle.xs_cert_lines.proofs.number.more_within.Goals as goal

pub returns-then-from-number-clause-value : goal.returns-then-from-number-clause-value
returns-then-from-number-clause-value c =
    let great : c.args.end ≤ c.digits.number = omega arith in
    sym (c.digits.invariant.value ∙ too_great c.args.first c.args.end c.digits.number (drop c.digits.at c.args.bytes.now) great)

pub digits-preserved : goal.digits-preserved
digits-preserved c =
    let small : c.args.end ≤ 2 ^ 32 = omega arith in
    record {
      value = digits_go_on c.args.first c.args.end c.digits.number c.in-Some.digit c.from-in-Some.result c.digits.at c.args.bytes.now _ small c.digits.invariant.some c.digits.invariant.feed c.in-Some.ensures c.from-in-Some.ensures c.digits.invariant.value;
      some = omega (arith, c.digits.invariant.some);
      feed = feed_next c.digits.at c.in-Some.digit c.args.bytes.now c.digits.invariant.feed c.in-Some.ensures;
      order = omega (arith, c.digits.invariant.order);
    }
