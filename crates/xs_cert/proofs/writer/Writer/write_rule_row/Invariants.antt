use Rattle.std.proofs.Common.{map, take}
use Rattle.xs_cert_laws.specs.Blocks.{for_rules}
use Rattle.xs_meet.specs.Closed.{Marked}
use Rattle.xs_closed.specs.Rows.{marked}
use Rattle.xs_cert.specs.Kept.{AreNetsOf}
use Rattle.xs_cert.specs.Writing.{AddsBlocks}
use Rattle.xs_cert.proofs.writer.Writer.write_rule_row.Given as goal

abbrev pub invariant-others : goal.invariant-others
invariant-others l = record {
  nets : AreNetsOf l.source.site.g.now l.nets.nets.items;
  adds : AddsBlocks l.source.site.g.now l.source.nest.now (Marked (marked l.source.related.now)) (map (for_rules l.rule) (take l.at l.partners.items)) l.fn.self.out l.self.out;
}
