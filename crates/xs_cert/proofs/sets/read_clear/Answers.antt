use Rattle.std.proofs.Common.{Option, sym, subst, refl}
use Rattle.xs_meet.specs.Closed.{Marked}
use Rattle.xs_closed.specs.Rows.{marked}
use Rattle.xs_cert.specs.declared.place.Reading.{Reading}
use Rattle.xs_cert.specs.Steps.{IsCutReading}
use Rattle.xs_cert.proofs.Standing.{place_past}
use Rattle.xs_cert.proofs.SetsRead.{clear_read, rows_as, first_as}
use Rattle.xs_cert.proofs.sets.read_clear.Goals as goal

pub read_set-requires : goal.read_set-requires
read_set-requires c =
    let first = rw c.in-Some.is at c.in_ok-rests.ensures in
    place_past c.requires first.past

pub returns : goal.returns
returns c =
    let R = Marked (marked c.args.related.now) in
    let first = rw c.in-Some.is at c.in_ok-rests.ensures in
    let three = first_as c.len.ensures c.len-2.ensures first in
    let rows = rows_as c.len-3.ensures c.len-4.ensures c.in_ok-end.ensures in
    subst (λ (o : Option Reading). IsCutReading R c.args.front.now c.args.rest.now c.args.bytes.now c.args.place o) (sym c.part_of.ensures)
    (clear_read c.rows_are_marks.ensures.marks R c.args.front.now c.args.rest.now c.args.bytes.now c.args.place c.in-Some.rests c.in_ok-end.end c.first_sets.new.sets (record c.first_sets.new.sets { rests = c.read_set.new.set }) three refl refl refl rows c.longest_clear-right.result c.longest_clear-right.ensures)
