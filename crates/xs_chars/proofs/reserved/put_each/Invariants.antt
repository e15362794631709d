use Rattle.std.proofs.Common.{◌≡◌, ◌+◌, ◌*◌, ◌-◌, ◌≤◌, ◌++◌, length, drop, vec_len, vec_capacity, encode_utf8_all}
use Rattle.std.specs.Str.{all_scalars}
use Rattle.xs_chars.proofs.reserved.put_each.Given as goal

abbrev pub invariant-symbols : goal.invariant-symbols
invariant-symbols l = record {
  characters : all_scalars l.symbols ≡ all_scalars (drop l.symbol-index l.symbols);
  so_far : l.bytes.items ++ encode_utf8_all (drop l.symbol-index l.symbols) ≡ l.initial.bytes.items ++ encode_utf8_all l.symbols;
  room : vec_len l.bytes + 4 * (length l.symbols - l.symbol-index) ≤ vec_capacity l.bytes;
}
