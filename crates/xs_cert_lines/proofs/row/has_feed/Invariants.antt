use Rattle.std.proofs.Common.{◌≡◌, ◌-◌, length, drop}
use Rattle.xs_closed.specs.Rows.{has_number}
use Rattle.xs_cert_lines.proofs.row.has_feed.Given as goal

abbrev pub invariant-bytes : goal.invariant-bytes
invariant-bytes l = has_number (drop l.start l.bytes) 10 ≡ has_number (drop l.at l.bytes) 10

abbrev pub decreases-bytes : goal.decreases-bytes
decreases-bytes l = length l.bytes - l.at
