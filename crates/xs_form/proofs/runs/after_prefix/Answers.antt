use Rattle.std.proofs.Common.{drop, sym, ◌∙◌, arith, length-drop}
use Rattle.xs_xml_laws.proofs.Steps.{after_none}
use Rattle.xs_form.proofs.runs.after_prefix.Goals as goal

pub returns-in-empty : goal.returns-in-empty
returns-in-empty c =
    sym (c.bytes.invariant ∙ after_none (drop c.bytes.byte-index c.args.prefix.now) c.bytes.rest.now (omega (arith, length-drop c.bytes.byte-index c.args.prefix.now)) (omega arith))
