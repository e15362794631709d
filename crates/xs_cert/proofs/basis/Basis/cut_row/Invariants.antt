use Rattle.std.proofs.Common.{map}
use Rattle.xs_meet.specs.Closed.{Marked}
use Rattle.xs_closed.specs.Rows.{marked}
use Rattle.xs_cert_laws.specs.Blocks.{for_cut}
use Rattle.xs_cert_laws.specs.Certificates.{between}
use Rattle.xs_cert.specs.Readings.{AreWhole}
use Rattle.xs_cert.proofs.basis.Basis.cut_row.Given as goal

abbrev pub invariant-cuts : goal.invariant-cuts
invariant-cuts l = AreWhole l.self.site.g.now l.self.nest.now (Marked (marked l.self.related.now)) l.self.bytes.now l.fn.place (map (for_cut l.rule) (between 1 l.cut)) l.at
