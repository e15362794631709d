use Rattle.std.proofs.Common.{◌≡◌, ◌++◌, take}
use Rattle.xs_atoms.specs.Fixed.{word_ranges}
use Rattle.xs_atoms.proofs.fixed.push_symbols.Given as goal

abbrev pub invariant-symbols : goal.invariant-symbols
invariant-symbols l = l.ranges.items ≡ l.initial.ranges.items ++ word_ranges (take l.symbol-index l.symbols)
