use Rattle.std.proofs.Common.{take}
use Rattle.xs_xml_out.specs.Spelling.{AreKnown}
use Rattle.xs_xml_out.proofs.writable.are_known.Given as goal

abbrev pub invariant-symbols : goal.invariant-symbols
invariant-symbols l = AreKnown l.tags (take l.symbol-index l.symbols)
