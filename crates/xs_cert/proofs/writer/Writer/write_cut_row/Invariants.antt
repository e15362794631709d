use Rattle.std.proofs.Common.{map}
use Rattle.xs_cert_laws.specs.Blocks.{for_cut}
use Rattle.xs_cert_laws.specs.Certificates.{between}
use Rattle.xs_meet.specs.Closed.{Marked}
use Rattle.xs_closed.specs.Rows.{marked}
use Rattle.xs_cert.specs.Writing.{AddsBlocks}
use Rattle.xs_cert.proofs.writer.Writer.write_cut_row.Given as goal

abbrev pub invariant-cuts : goal.invariant-cuts
invariant-cuts l = AddsBlocks l.source.site.g.now l.source.nest.now (Marked (marked l.source.related.now)) (map (for_cut l.rule) (between 1 l.cut)) l.fn.self.out l.self.out
