use Rattle.std.proofs.Common.{encode_utf8_all}
use Rattle.std.specs.String.{string_bytes}
use Rattle.xs_form.proofs.NameLaws.{spelled_more, first_scalar}
use Rattle.xs_form.proofs.marks.spelled.Goals as goal

pub push_scalar-requires : goal.push_scalar-requires
push_scalar-requires c = first_scalar c.args.name.now c.symbols.symbol-index c.symbol-item.result c.symbols-test.true c.symbol-item.is c.symbols.invariant.names

pub symbols-preserved : goal.symbols-preserved
symbols-preserved c =
    let next = spelled_more (encode_utf8_all c.args.name.now) (string_bytes c.symbols.text) (string_bytes c.push_scalar.new.text) c.args.name.now c.symbols.symbol-index c.symbol-item.result c.symbols-test.true c.symbol-item.is c.symbols.invariant.so_far c.symbols.invariant.names c.in_ok-push_scalar.ensures in
    record { so_far = next.0; names = next.1 }
