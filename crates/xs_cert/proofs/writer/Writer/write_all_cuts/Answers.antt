use Rattle.std.proofs.Common.{flat_map, arith}
use Rattle.xs_meet.specs.Closed.{Marked}
use Rattle.xs_closed.specs.Rows.{marked}
use Rattle.xs_cert_laws.specs.Certificates.{between}
use Rattle.xs_cert_laws.specs.Certificates.{cut_heads}
use Rattle.xs_cert.proofs.Ranges.{flat_more}
use Rattle.xs_cert.proofs.Adding.{adds_both}
use Rattle.xs_cert.proofs.writer.Writer.write_all_cuts.Goals as goal

pub rules-preserved : goal.rules-preserved
rules-preserved c =
    let source = c.args.source in
    let more = adds_both source.site.g.now source.nest.now (Marked (marked source.related.now)) (flat_map (cut_heads source.site.g.now) (between 0 c.rules.rule)) ((cut_heads source.site.g.now) c.rules.rule) c.rules.invariant c.in_ok-write_cut_row.ensures in
    rw (flat_more (cut_heads source.site.g.now) 0 c.rules.rule (omega arith)) more
