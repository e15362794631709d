use Rattle.std.proofs.Common.{◌≡◌, ◌++◌, drop, false}
use Rattle.xs_xml_laws.specs.Reads.{lines}
use Rattle.xs_form.proofs.reader.push_lines.Given as goal

abbrev pub invariant-symbols : goal.invariant-symbols
invariant-symbols l = l.initial.word ++ lines false l.text ≡ l.word ++ lines l.after_return (drop l.symbol-index l.text)
