use Rattle.std.proofs.Common.{◌≡◌, ◌++◌, [], drop}
use Rattle.xs_gram.specs.Fences.{split_word}
use Rattle.xs_gram.proofs.spread.push_split.Given as goal

abbrev pub invariant-symbols : goal.invariant-symbols
invariant-symbols l = l.out.items ++ split_word l.fences l.before (drop l.symbol-index l.word) [] ≡ l.fn.out.items ++ split_word l.fences [] l.word []
