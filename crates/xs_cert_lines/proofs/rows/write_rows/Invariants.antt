use Rattle.std.proofs.Common.{◌≡◌, ◌≤◌, ◌++◌, length, take, drop}
use Rattle.xs_closed.specs.Rows.{rows_from, rows_of}
use Rattle.xs_cert_lines.specs.Lines.{written, set_lines}
use Rattle.xs_cert_lines.proofs.rows.write_rows.Given as goal

abbrev pub invariant-rows : goal.invariant-rows
invariant-rows l = record {
  text : (l.out ++ take l.at l.page) ++ written (set_lines (rows_from l.state (drop l.state l.set.rows))) ≡ l.fn.out ++ written (set_lines (rows_of l.set));
  order : length l.fn.out ≤ length l.out;
  size : length l.page ≡ 2048;
  within : l.at ≤ length l.page;
}
