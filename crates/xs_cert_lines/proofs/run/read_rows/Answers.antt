use Rattle.std.proofs.Common.{◌^◌, ◌<◌, ◌++◌, length, drop, sym, ap, ◌∙◌, arith}
use Rattle.xs_cert_lines.specs.Lines.{written, set_lines}
use Rattle.xs_cert_lines.specs.Reading.{next_state}
use Rattle.xs_cert_lines.proofs.Running.{IsMore, added, blank_rows, blank_later, more_there, more_next, more_count, run_is, same_set, none_next}
use Rattle.xs_cert_lines.proofs.run.read_rows.Goals as goal

pub rows-init : goal.rows-init
rows-init c =
    let none = blank_rows c.args.set.now c.requires.blank in
    record {
      order = omega arith;
      within = c.requires.within;
      sized = c.high-high.ensures.sized;
      there = ap (λ z. written (set_lines z) ++ drop c.args.start c.args.bytes.now) (sym none);
      next = ap (next_state 0) (sym none);
      count = ap length (sym none);
      few = omega arith;
    }

pub read_row-requires-clause-blank : goal.read_row-requires-clause-blank
read_row-requires-clause-blank c = blank_later c.rows_are_marks.ensures.marks (length c.args.set.now.rows) c.args.set.now.wide c.rows.first c.rows.set c.rows.invariant.sized c.rows.invariant.next

pub rows-preserved : goal.rows-preserved
rows-preserved c =
    let high = length c.args.set.now.rows in
    let wide = c.args.set.now.wide in
    let bytes = drop c.rows.end c.args.bytes.now in
    let rest = drop c.in-Some.after c.args.bytes.now in
    let more : IsMore high wide c.rows.first c.rows.set c.read_row.new.set bytes c.in-Some.next rest =
    added c.rows_are_marks.ensures.marks c.rows_are_marks.ensures.one high wide c.rows.first c.rows.set c.read_row.new.set bytes c.in-Some.next rest c.rows.invariant.sized c.rows.invariant.next c.in-Some.ensures.some in
    record {
      order = omega (arith, c.rows.invariant.order, c.in-Some.ensures.order);
      within = c.in-Some.ensures.place;
      sized = more.sized;
      there = more_there _ high wide c.rows.first c.rows.set c.read_row.new.set bytes c.in-Some.next rest c.rows.invariant.there more;
      next = more_next high wide c.rows.first c.rows.set c.read_row.new.set bytes c.in-Some.next rest more;
      count = more_count c.rows.count high wide c.rows.first c.rows.set c.read_row.new.set bytes c.in-Some.next rest c.rows.invariant.count more;
      few = omega (arith, c.rows.invariant.few, more.order, more.next_is);
    }

pub returns : goal.returns
returns c =
    let high = length c.args.set.now.rows in
    let wide = c.args.set.now.wide in
    let small : high < 2 ^ 32 = omega (arith, c.high-high.ensures.value) in
    let narrow : wide < 2 ^ 32 = omega (arith, c.wide-wide.ensures.value) in
    let same = same_set c.rows_are_marks.ensures.marks c.rows_are_marks.ensures.one high wide c.rows.set c.read_row.new.set c.rows.invariant.sized c.in_default.ensures.same in
    run_is c.args.bytes.now c.args.start high wide c.rows.end c.rows.count c.rows.first c.read_row.new.set c.rows_are_marks.ensures.marks c.rows.invariant.order c.rows.invariant.within small narrow
    same.sized (c.rows.invariant.there ∙ ap (λ z. written (set_lines z) ++ drop c.rows.end c.args.bytes.now) (sym same.rows))
    (c.rows.invariant.next ∙ ap (next_state 0) (sym same.rows)) (c.rows.invariant.count ∙ ap length (sym same.rows))
    (none_next c.rows.first high wide c.high-high.result c.wide-wide.result (drop c.rows.end c.args.bytes.now) c.high-high.ensures.value c.wide-wide.ensures.value c.in_default.ensures.none)
