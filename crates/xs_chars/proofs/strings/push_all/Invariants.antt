use Rattle.std.proofs.Common.{◌≡◌, ◌++◌, take, encode_utf8_all}
use Rattle.xs_chars.proofs.strings.push_all.Given as goal

abbrev pub invariant-symbols : goal.invariant-symbols
invariant-symbols l = l.bytes.items ≡ l.fn.bytes.items ++ encode_utf8_all (take l.symbol-index l.symbols)
