use Rattle.std.proofs.Common.{Option, sym, subst}
use Rattle.xs_meet.specs.Closed.{Marked}
use Rattle.xs_closed.specs.Rows.{marked}
use Rattle.xs_cert_laws.specs.Blocks.{ShowsApart}
use Rattle.xs_cert.specs.declared.place.Reading.{Reading}
use Rattle.xs_cert.specs.Rows.{IsRowsReading}
use Rattle.xs_cert.proofs.SetsRead.{apart_read, rows_as}
use Rattle.xs_cert.proofs.sets.read_apart.Goals as goal

pub returns : goal.returns
returns c =
    let R = Marked (marked c.args.related.now) in
    let rows = rows_as c.len.ensures c.len-2.ensures c.in_ok-end.ensures in
    subst (λ (o : Option Reading). IsRowsReading (ShowsApart R c.args.m.now c.args.n.now) c.args.bytes.now c.args.place o) (sym c.part_of.ensures)
    (apart_read c.rows_are_marks.ensures.marks R c.args.m.now c.args.n.now rows c.longest_apart-right.result c.longest_apart-right.ensures)
