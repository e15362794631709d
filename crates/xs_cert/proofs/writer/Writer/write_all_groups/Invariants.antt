use Rattle.std.proofs.Common.{flat_map}
use Rattle.xs_cert_laws.specs.Certificates.{between}
use Rattle.xs_cert.specs.Sides.{open_heads}
use Rattle.xs_meet.specs.Closed.{Marked}
use Rattle.xs_closed.specs.Rows.{marked}
use Rattle.xs_cert.specs.Writing.{AddsBlocks}
use Rattle.xs_cert.proofs.writer.Writer.write_all_groups.Given as goal

abbrev pub invariant-groups : goal.invariant-groups
invariant-groups l = AddsBlocks l.source.site.g.now l.source.nest.now (Marked (marked l.source.related.now)) (flat_map (open_heads l.source.nest.now (marked l.source.related.now)) (between 0 l.group)) l.fn.self.out l.self.out
