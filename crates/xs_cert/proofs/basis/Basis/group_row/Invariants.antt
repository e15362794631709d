use Rattle.std.proofs.Common.{map, take}
use Rattle.xs_meet.specs.Closed.{Marked}
use Rattle.xs_closed.specs.Rows.{marked}
use Rattle.xs_cert_laws.specs.Blocks.{for_groups}
use Rattle.xs_cert.specs.Readings.{AreWhole}
use Rattle.xs_cert.proofs.basis.Basis.group_row.Given as goal

abbrev pub invariant-partners : goal.invariant-partners
invariant-partners l = AreWhole l.self.site.g.now l.self.nest.now (Marked (marked l.self.related.now)) l.self.bytes.now l.fn.place (map (for_groups l.first) (take l.second-index l.second-items)) l.at
