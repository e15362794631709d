use Rattle.std.proofs.Common.{◌<◌, length, arith}
use Rattle.xs_meet.specs.Closed.{Marked}
use Rattle.xs_closed.specs.Rows.{marked}
use Rattle.xs_cert_laws.specs.Blocks.{for_groups}
use Rattle.xs_cert.specs.Heads.{is_open}
use Rattle.xs_cert.proofs.Ranges.{Passes, passed}
use Rattle.xs_cert.proofs.Adding.{adds_next}
use Rattle.xs_cert.proofs.writer.Writer.write_group_row.Goals as goal

pub write_groups-requires-clause-other : goal.write_groups-requires-clause-other
write_groups-requires-clause-other c =
    let source = c.args.source in
    let within : c.others.at < length c.group_partners.new.partners.items = omega (arith, c.others-test.true, c.len-at-end.ensures, c.group_partners.new.partners.ok) in
    let found = passed (is_open source.nest.now (marked source.related.now) c.args.group) c.args.group (length source.nest.now) c.group_partners.new.partners.items c.others.at c.index.result.now c.in_ok-group_partners.ensures within c.index.ensures in
    omega (arith, found.first, found.last)

pub write_groups-requires-clause-apart : goal.write_groups-requires-clause-apart
write_groups-requires-clause-apart c =
    let source = c.args.source in
    let within : c.others.at < length c.group_partners.new.partners.items = omega (arith, c.others-test.true, c.len-at-end.ensures, c.group_partners.new.partners.ok) in
    (passed (is_open source.nest.now (marked source.related.now) c.args.group) c.args.group (length source.nest.now) c.group_partners.new.partners.items c.others.at c.index.result.now c.in_ok-group_partners.ensures within c.index.ensures).yes

pub others-preserved : goal.others-preserved
others-preserved c =
    let source = c.args.source in
    let within : c.others.at < length c.group_partners.new.partners.items = omega (arith, c.others-test.true, c.len-at-end.ensures, c.group_partners.new.partners.ok) in
    adds_next source.site.g.now source.nest.now (Marked (marked source.related.now)) (for_groups c.args.group) c.group_partners.new.partners.items c.others.at c.index.result.now within c.index.ensures c.others.invariant c.in_ok-write_groups.ensures
