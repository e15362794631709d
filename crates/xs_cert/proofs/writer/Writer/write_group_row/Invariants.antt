use Rattle.std.proofs.Common.{map, take}
use Rattle.xs_cert_laws.specs.Blocks.{for_groups}
use Rattle.xs_meet.specs.Closed.{Marked}
use Rattle.xs_closed.specs.Rows.{marked}
use Rattle.xs_cert.specs.Writing.{AddsBlocks}
use Rattle.xs_cert.proofs.writer.Writer.write_group_row.Given as goal

abbrev pub invariant-others : goal.invariant-others
invariant-others l = AddsBlocks l.source.site.g.now l.source.nest.now (Marked (marked l.source.related.now)) (map (for_groups l.group) (take l.at l.partners.items)) l.fn.self.out l.self.out
