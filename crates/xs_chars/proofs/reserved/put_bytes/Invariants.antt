use Rattle.std.proofs.Common.{◌≡◌, ◌+◌, ◌++◌, take, vec_len, vec_capacity}
use Rattle.xs_chars.proofs.reserved.put_bytes.Given as goal

abbrev pub invariant-bytes : goal.invariant-bytes
invariant-bytes l = record {
  so_far : l.bytes.items ≡ l.initial.bytes.items ++ take l.byte-index l.piece;
  long : vec_len l.bytes ≡ vec_len l.initial.bytes + l.byte-index;
  room : vec_capacity l.bytes ≡ vec_capacity l.initial.bytes;
}
