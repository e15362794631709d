use Rattle.std.proofs.Common.{◌≡◌, ◌-◌, ◌<◌, ◌≤◌, true, length, drop}
use Rattle.xs_closed.specs.Rows.{has_number}
use Rattle.xs_cert_lines.specs.Numbers.{number_after, kept_within}
use Rattle.xs_cert_lines.proofs.number.more_within.Given as goal

abbrev pub invariant-digits : goal.invariant-digits
invariant-digits l = record {
  value : kept_within l.first l.end (number_after l.leading (drop l.start l.bytes)) ≡ kept_within l.first l.end (number_after l.number (drop l.at l.bytes));
  some : 0 < l.number;
  feed : has_number (drop l.at l.bytes) 10 ≡ true;
  order : l.start ≤ l.at;
}

abbrev pub decreases-digits : goal.decreases-digits
decreases-digits l = length l.bytes - l.at
