use Rattle.std.proofs.Common.{◌≡◌, ◌++◌, drop}
use Rattle.xs_talk.specs.Words.{shown}
use Rattle.xs_talk.proofs.words.push_symbols.Given as goal

abbrev pub invariant-symbols : goal.invariant-symbols
invariant-symbols l = l.out ++ shown l.names (drop l.symbol-index l.word) ≡ l.fn.out ++ shown l.names l.word
