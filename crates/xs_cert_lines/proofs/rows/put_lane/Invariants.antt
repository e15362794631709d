use Rattle.std.proofs.Common.{◌≡◌, ◌+◌, ◌-◌, ◌*◌, ◌≤◌, [], ◌++◌, length, get_or, take, drop}
use Rattle.xs_closed.specs.Rows.{places}
use Rattle.xs_cert_lines.specs.Reading.{listed}
use Rattle.xs_cert_lines.proofs.Lanes.{IsLeft}
use Rattle.xs_cert_lines.proofs.rows.put_lane.Given as goal

abbrev pub invariant-partners : goal.invariant-partners
invariant-partners l = record {
  left : IsLeft (get_or l.set.rows l.state []) l.from (l.place * 64 + 64) l.left;
  text : take l.at l.page ++ listed (places l.from (drop l.from (get_or l.set.rows l.state []))) ≡ take l.start l.fn.page ++ listed (places (l.place * 64) (drop (l.place * 64) (get_or l.set.rows l.state [])));
  size : length l.page ≡ length l.fn.page;
  room : l.at + 11 * (l.place * 64 + 64) ≤ l.start + 704 + 11 * l.from;
}

abbrev pub decreases-partners : goal.decreases-partners
decreases-partners l = l.place * 64 + 64 - l.from
