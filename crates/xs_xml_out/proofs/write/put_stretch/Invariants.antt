use Rattle.std.proofs.Common.{take, string_bytes}
use Rattle.xs_xml_out.specs.Written.{IsAppended}
use Rattle.xs_xml_out.proofs.write.put_stretch.Given as goal

abbrev pub invariant-symbols : goal.invariant-symbols
invariant-symbols l = IsAppended l.tags l.fn.from (take l.symbol-index l.symbols) (string_bytes l.initial.out) (string_bytes l.out) l.mode
