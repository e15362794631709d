use Rattle.std.proofs.Common.{flat_map, arith}
use Rattle.xs_meet.specs.Closed.{Marked}
use Rattle.xs_closed.specs.Rows.{marked}
use Rattle.xs_cert_laws.specs.Certificates.{between}
use Rattle.xs_cert.specs.Sides.{open_heads}
use Rattle.xs_cert.proofs.Ranges.{flat_more}
use Rattle.xs_cert.proofs.Adding.{adds_both}
use Rattle.xs_cert.proofs.writer.Writer.write_all_groups.Goals as goal

pub groups-preserved : goal.groups-preserved
groups-preserved c =
    let source = c.args.source in
    let more = adds_both source.site.g.now source.nest.now (Marked (marked source.related.now)) (flat_map (open_heads source.nest.now (marked source.related.now)) (between 0 c.groups.group)) ((open_heads source.nest.now (marked source.related.now)) c.groups.group) c.groups.invariant c.in_ok-write_group_row.ensures in
    rw (flat_more (open_heads source.nest.now (marked source.related.now)) 0 c.groups.group (omega arith)) more
