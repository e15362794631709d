use Rattle.std.proofs.Common.{flat_map, arith}
use Rattle.xs_meet.specs.Closed.{Marked}
use Rattle.xs_closed.specs.Rows.{marked}
use Rattle.xs_cert_laws.specs.Certificates.{between}
use Rattle.xs_cert_laws.specs.Certificates.{rule_heads}
use Rattle.xs_cert.proofs.Ranges.{flat_more}
use Rattle.xs_cert.proofs.Adding.{adds_both}
use Rattle.xs_cert.proofs.writer.Writer.write_all_rules.Goals as goal

pub rules-preserved : goal.rules-preserved
rules-preserved c =
    let source = c.args.source in
    let more = adds_both source.site.g.now source.nest.now (Marked (marked source.related.now)) (flat_map (rule_heads source.site.g.now) (between 0 c.rules.rule)) ((rule_heads source.site.g.now) c.rules.rule) c.rules.invariant.adds c.in_ok-write_rule_row.ensures.adds in
    record { nets = c.write_rule_row.ensures.nets; adds = rw (flat_more (rule_heads source.site.g.now) 0 c.rules.rule (omega arith)) more }
