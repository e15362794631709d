use Rattle.std.proofs.Common.{◌≡◌, map, take}
use Rattle.xs_gram.specs.Common.{word}
use Rattle.xs_tree.specs.Flat.{trees_of}
use Rattle.xs_cover.proofs.leaves.leaf_parts.Given as goal

abbrev pub invariant-words : goal.invariant-words
invariant-words l = trees_of l.builder ≡ map word (take l.word-index l.words)
