use Rattle.std.proofs.Common.{refl}
use Rattle.std.proofs.lemmas.Result.{on_ok_weaker}
use Rattle.xs_closed.specs.Rows.{marked, rows_of}
use Rattle.xs_cert_lines.specs.Lines.{set_lines}
use Rattle.xs_cert_laws.specs.Blocks.{of_cut, for_cut, head_line, AreCutNets}
use Rattle.xs_cert.proofs.Tables.{tables_show, tables_least}
use Rattle.xs_cert.proofs.Nowhere.{of_cut as nowhere}
use Rattle.xs_cert.proofs.Adding.{adds_cut}
use Rattle.xs_cert.proofs.writer.Writer.write_cut.Goals as goal

pub returns : goal.returns
returns c =
    let source = c.args.source in
    let r = marked source.related.now in
    let law = c.rows_are_marks.ensures.marks in
    let least = c.least_sets_are_right.ensures.clear in
    let nets = c.in_ok-nets.ensures in
    let f = c.in_ok-nets.nets.front in
    let e = c.in_ok-nets.nets.rest in
    let are : AreCutNets source.site.g.now c.args.rule c.args.cut f e = record { start = nets.start; end = nets.end; at = nets.at; front = nets.front; rest = nets.rest } in
    let none = nowhere source.site.g.now source.nest.now source.related.now c.requires.source c.reached_shows.ensures.overlap c.args.rule c.args.cut f e c.requires.rule c.requires.low c.requires.high are in
    let s = c.least_clear.new.sets in
    on_ok_weaker c.write_rows-4.result (λ last. record {
      block = of_cut c.args.rule c.args.cut f e (rows_of s.fronts) (rows_of s.pauses) (rows_of s.middles) (rows_of s.rests);
      is_for = refl;
      right = (are, tables_show law r f e s least c.in_ok-least_clear.ensures none);
      least = tables_least law r f e s least c.in_ok-least_clear.ensures;
      adds = adds_cut c.args.self.now.out (head_line (for_cut c.args.rule c.args.cut)) (set_lines (rows_of s.fronts)) (set_lines (rows_of s.pauses)) (set_lines (rows_of s.middles)) (set_lines (rows_of s.rests)) c.in_ok-write_pair.ensures.ok c.in_ok-extend.ensures.ok c.in_ok-write_rows.ensures.ok c.in_ok-extend-2.ensures.ok c.in_ok-write_rows-2.ensures.ok c.in_ok-extend-3.ensures.ok c.in_ok-write_rows-3.ensures.ok c.in_ok-extend-4.ensures.ok last;
    }) c.write_rows-4.ensures.ok
