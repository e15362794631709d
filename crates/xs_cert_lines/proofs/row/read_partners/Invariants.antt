use Rattle.std.proofs.Common.{◌≡◌, ℕ, ◌-◌, ◌≤◌, true, List, length, drop}
use Rattle.xs_closed.specs.Rows.{has_number}
use Rattle.xs_cert_lines.specs.Reading.{ArePartners, MarksIn}
use Rattle.xs_cert_lines.proofs.Partners.{SameRests}
use Rattle.xs_cert_lines.proofs.Marking.{IsMarking}
use Rattle.xs_cert_lines.proofs.row.read_partners.Given as goal

abbrev pub invariant-partners : goal.invariant-partners
invariant-partners l = record {
  feed : has_number (drop l.at l.bytes) 10 ≡ true;
  order : l.start ≤ l.at;
  same : SameRests l.end 0 (drop l.start l.bytes) l.first (drop l.at l.bytes);
  row : MarksIn l.fn.set l.set l.state;
  marks : (partners rest : List ℕ) → ArePartners 0 l.fn.set.wide (drop l.start l.bytes) partners rest → IsMarking l.first l.end l.fn.set l.set l.state (drop l.at l.bytes) partners rest;
}

abbrev pub decreases-partners : goal.decreases-partners
decreases-partners l = length l.bytes - l.at
