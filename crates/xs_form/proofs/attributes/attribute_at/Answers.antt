use Rattle.std.proofs.Common.{None, Some}
use Rattle.xs_form.specs.Values.{value_symbols, value_written}
use Rattle.xs_form.proofs.AttributeLaws.{no_head, one_end}
use Rattle.xs_form.proofs.attributes.attribute_at.Goals as goal

pub returns-in_default : goal.returns-in_default
returns-in_default c = no_head c.args.text.now c.in_default.ensures

pub returns-in-None : goal.returns-in-None
returns-in-None c = one_end c.args.text.now c.in-Some.head.name.now c.in-Some.head.rest.now (value_symbols c.in_ok-value.value) c.in-Some.head.quote (value_written c.in_ok-value.value) c.in_ok-value.more.now None c.in-Some.ensures c.in_ok-value.ensures.symbols c.in_ok-value.ensures.written c.in_ok-value.ensures.left c.in-None.ensures

pub returns : goal.returns
returns c = one_end c.args.text.now c.in-Some.head.name.now c.in-Some.head.rest.now (value_symbols c.in_ok-value.value) c.in-Some.head.quote (value_written c.in_ok-value.value) c.in_ok-value.more.now (Some c.in-Some-after_quote.rest.now) c.in-Some.ensures c.in_ok-value.ensures.symbols c.in_ok-value.ensures.written c.in_ok-value.ensures.left c.in-Some-after_quote.ensures
