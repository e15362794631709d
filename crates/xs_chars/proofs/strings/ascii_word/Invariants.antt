use Rattle.std.proofs.Common.{◌≡◌, ◌≤◌, length, take, vec_capacity}
use Rattle.xs_chars.proofs.strings.ascii_word.Given as goal

abbrev pub invariant-bytes : goal.invariant-bytes
invariant-bytes l = record {
  so_far : l.symbols.items ≡ take l.byte-index l.bytes;
  room : length l.bytes ≤ vec_capacity l.symbols;
}
