use Rattle.std.proofs.Common.{length, arith}
use Rattle.xs_closed.specs.Rows.{marked}
use Rattle.xs_cert.specs.Sides.{open_heads}
use Rattle.xs_cert.proofs.Standing.{place_past}
use Rattle.xs_cert.proofs.Loops.{flat_whole, flat_broken, flat_end}
use Rattle.xs_cert.proofs.Composing.{whole_none}
use Rattle.xs_cert.proofs.basis.Basis.all_groups.Goals as goal

pub groups-init : goal.groups-init
groups-init c = whole_none c.args.place c.requires.place.within

pub group_row-requires-clause-place : goal.group_row-requires-clause-place
group_row-requires-clause-place c = place_past c.requires.place c.groups.invariant.past

pub returns-in-Broken : goal.returns-in-Broken
returns-in-Broken c =
    let b = c.args.self.now in
    let row = rw c.in-Broken.is at c.in_ok-next.ensures in
    flat_broken (open_heads b.nest.now (marked b.related.now)) 0 c.groups.first (length b.nest.now) c.args.place c.groups.at c.in-Broken.lines (omega arith) (omega arith) c.groups.invariant row

pub groups-preserved : goal.groups-preserved
groups-preserved c =
    let b = c.args.self.now in
    let row = rw c.in-Whole.is at c.in_ok-next.ensures in
    flat_whole (open_heads b.nest.now (marked b.related.now)) 0 c.groups.first c.args.place c.groups.at c.in-Whole.next (omega arith) c.groups.invariant row

pub returns : goal.returns
returns c =
    let b = c.args.self.now in
    flat_end (open_heads b.nest.now (marked b.related.now)) 0 c.groups.first (length b.nest.now) c.args.place c.groups.at (omega arith) c.groups.invariant
