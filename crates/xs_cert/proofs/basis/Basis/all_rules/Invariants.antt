use Rattle.std.proofs.Common.{flat_map}
use Rattle.xs_meet.specs.Closed.{Marked}
use Rattle.xs_closed.specs.Rows.{marked}
use Rattle.xs_cert_laws.specs.Certificates.{between, rule_heads}
use Rattle.xs_cert.specs.Readings.{AreWhole}
use Rattle.xs_cert.proofs.basis.Basis.all_rules.Given as goal

abbrev pub invariant-rules : goal.invariant-rules
invariant-rules l = AreWhole l.self.site.g.now l.self.nest.now (Marked (marked l.self.related.now)) l.self.bytes.now l.fn.place (flat_map (rule_heads l.self.site.g.now) (between 0 l.first)) l.at
