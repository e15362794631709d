use Rattle.std.proofs.Common.{◌≡◌, map, string_bytes, take}
use Rattle.xs_c.specs.Runs.{said}
use Rattle.xs_c.proofs.running.texts.Given as goal

abbrev pub invariant-words : goal.invariant-words
invariant-words l = map string_bytes l.texts.items ≡ said (take l.word-index l.words)
