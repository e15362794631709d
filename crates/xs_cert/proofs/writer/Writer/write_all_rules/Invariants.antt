use Rattle.std.proofs.Common.{flat_map}
use Rattle.xs_cert_laws.specs.Certificates.{between, rule_heads}
use Rattle.xs_meet.specs.Closed.{Marked}
use Rattle.xs_closed.specs.Rows.{marked}
use Rattle.xs_cert.specs.Kept.{AreNetsOf}
use Rattle.xs_cert.specs.Writing.{AddsBlocks}
use Rattle.xs_cert.proofs.writer.Writer.write_all_rules.Given as goal

abbrev pub invariant-rules : goal.invariant-rules
invariant-rules l = record {
  nets : AreNetsOf l.source.site.g.now l.nets.nets.items;
  adds : AddsBlocks l.source.site.g.now l.source.nest.now (Marked (marked l.source.related.now)) (flat_map (rule_heads l.source.site.g.now) (between 0 l.rule)) l.fn.self.out l.self.out;
}
