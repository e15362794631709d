use Rattle.std.proofs.Common.{◌≡◌, ◌+◌, ◌≤◌, vec_len, vec_capacity}
use Rattle.xs_lr.proofs.straight.push_parts.Given as goal

abbrev pub invariant-entries : goal.invariant-entries
invariant-entries l = record {
  length : vec_len l.parts ≡ vec_len l.initial.parts + l.entry-index;
  room : vec_capacity l.initial.parts ≤ vec_capacity l.parts;
}
