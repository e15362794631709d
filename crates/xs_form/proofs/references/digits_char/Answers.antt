use Rattle.std.proofs.Common.{◌≡◌, ◌≤◌, ◌+◌, ◌*◌, min, sym, ◌∙◌, ap, arith}
use Rattle.xs_xml_laws.specs.Piece.{number, all_of}
use Rattle.xs_form.specs.Digits.{radix_of, is_digit_of}
use Rattle.xs_form.proofs.Numbers.{digit_of_hex, number_is, digit_step, digit_end}
use Rattle.xs_form.proofs.references.digits_char.Goals as goal

pub value_of-requires : goal.value_of-requires
value_of-requires c = digit_of_hex c.args.base c.symbol-item.result (sym c.has.ensures ∙ c.if-not-has.false)

pub digits-preserved : goal.digits-preserved
digits-preserved c =
    let ds = c.args.digits.now in
    let f = is_digit_of c.args.base in
    let b = radix_of c.args.base in
    let least : 1 ≤ b = omega (arith, c.radix-radix.ensures.least, c.radix-radix.ensures.radix) in
    let next = digit_step f b (number b 0 ds) c.digits.number c.value_of.result c.symbol-item.result ds c.digits.symbol-index (all_of f ds) least c.digits-test.true c.symbol-item.is (sym c.has.ensures ∙ c.if-not-has.false) c.value_of.ensures.value c.digits.invariant.all c.digits.invariant.so_far in
    let here : c.appended-number.result ≡ min (c.digits.number * b + c.value_of.result) 1114112 = c.appended-number.ensures ∙ ap (λ n. min (c.digits.number * n + c.value_of.result) 1114112) c.radix-radix.ensures.radix in
    record {
      low = omega (arith, here);
      all = next.0;
      so_far = rw here next.1;
    }

pub returns : goal.returns
returns c =
    let ds = c.args.digits.now in
    let f = is_digit_of c.args.base in
    let b = radix_of c.args.base in
    let end = digit_end f b (number b 0 ds) c.digits.number ds c.digits.symbol-index (all_of f ds) c.digits-test.false c.digits.invariant.low c.digits.invariant.all c.digits.invariant.so_far in
    c.char_of.ensures ∙ number_is (all_of f ds) (number b 0 ds) c.digits.number end.0 end.1
