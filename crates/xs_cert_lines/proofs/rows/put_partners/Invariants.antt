use Rattle.std.proofs.Common.{◌≡◌, ◌+◌, ◌*◌, ◌≤◌, [], ◌++◌, length, get_or, take, drop}
use Rattle.xs_closed.specs.Rows.{places}
use Rattle.xs_cert_lines.specs.Reading.{listed}
use Rattle.xs_cert_lines.proofs.rows.put_partners.Given as goal

abbrev pub invariant-lanes : goal.invariant-lanes
invariant-lanes l = record {
  text : (l.out ++ take l.at l.page) ++ listed (places (l.place * 64) (drop (l.place * 64) (get_or l.set.rows l.state []))) ≡ (l.fn.out ++ take l.start l.fn.page) ++ listed (places 0 (get_or l.set.rows l.state []));
  order : length l.fn.out ≤ length l.out;
  size : length l.page ≡ length l.fn.page;
  room : l.at + 16 ≤ length l.page;
}
