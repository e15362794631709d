use Rattle.std.proofs.Common.{◌∙◌, ◌<◌, length, take, arith}
use Rattle.xs_cert_lines.proofs.Fronts.{on_err}
use Rattle.xs_cert_lines.proofs.Writing.{rows_front, rows_more}
use Rattle.xs_cert_lines.proofs.rows.write_rows.Goals as goal

pub returns-in_err-at-clause-err : goal.returns-in_err-at-clause-err
returns-in_err-at-clause-err c =
    let low : c.rows.state < length c.args.set.now.rows = omega (arith, c.rows-test.true, c.high-state-end.ensures.value) in
    on_err _ (rows_front c.args.out.now c.rows.out _ (take c.rows.at c.rows.page) _ c.rows.state c.args.set.now.rows low c.rows.invariant.text c.rows.invariant.order c.in_err-at.ensures.err)

pub rows-preserved : goal.rows-preserved
rows-preserved c =
    let low : c.rows.state < length c.args.set.now.rows = omega (arith, c.rows-test.true, c.high-state-end.ensures.value) in
    record {
      text = rows_more _ _ _ c.rows.state c.args.set.now.rows low c.in_ok-at.ensures.text.text c.rows.invariant.text;
      order = omega (arith, c.rows.invariant.order, c.in_ok-at.ensures.text.order);
      size = c.in_ok-at.ensures.text.size ∙ c.rows.invariant.size;
      within = c.in_ok-at.ensures.within;
    }
