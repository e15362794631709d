use Rattle.std.proofs.Common.{◌≡◌, ◌-◌, ◌≤◌, ◌++◌, length, drop}
use Rattle.xs_closed.specs.Rows.{IsSized, rows_of}
use Rattle.xs_cert_lines.specs.Lines.{written, set_lines}
use Rattle.xs_cert_lines.specs.Reading.{next_state}
use Rattle.xs_cert_lines.proofs.run.read_rows.Given as goal

abbrev pub invariant-rows : goal.invariant-rows
invariant-rows l = record {
  order : l.start ≤ l.end;
  within : l.end ≤ length l.bytes;
  sized : IsSized (length l.fn.set.rows) l.fn.set.wide l.set;
  there : drop l.start l.bytes ≡ written (set_lines (rows_of l.set)) ++ drop l.end l.bytes;
  next : l.first ≡ next_state 0 (rows_of l.set);
  count : l.count ≡ length (rows_of l.set);
  few : l.count ≤ l.first;
}

abbrev pub decreases-rows : goal.decreases-rows
decreases-rows l = length l.bytes - l.end
