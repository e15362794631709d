use Rattle.std.proofs.Common.{[], ◌∷◌}
use Rattle.std.proofs.lemmas.Result.{on_ok_weaker}
use Rattle.xs_closed.specs.Rows.{marked, rows_of}
use Rattle.xs_cert_lines.specs.Lines.{spaced, set_lines}
use Rattle.xs_cert.proofs.Adding.{adds_set}
use Rattle.xs_cert.proofs.Tables.{table_shows, table_least}
use Rattle.xs_cert.proofs.writer.Writer.write_apart.Goals as goal

pub returns : goal.returns
returns c =
    let r = marked c.args.related.now in
    let law = c.rows_are_marks.ensures.marks in
    let least = c.least_sets_are_right.ensures.apart in
    let m = c.args.m.now in
    let n = c.args.n.now in
    on_ok_weaker c.write_rows.result (λ e. record {
      set = rows_of c.least_apart.new.set;
      shows = table_shows law r m n _ least c.in_ok-least_apart.ensures c.requires;
      least = table_least law r m n _ least c.in_ok-least_apart.ensures;
      adds = adds_set c.args.self.now.out (spaced c.args.text.now (c.args.first ∷ c.args.second ∷ [])) (set_lines (rows_of c.least_apart.new.set)) c.in_ok-write_pair.ensures.ok e;
    }) c.write_rows.ensures.ok
