use Rattle.std.proofs.Common.{◌≡◌, ◌∙◌, length, ap, sym, arith}
use Rattle.xs_gram.specs.Grammar.{items}
use Rattle.xs_text_out.proofs.Laying.{rows_put}
use Rattle.xs_text_out.proofs.pieces.pieces_of.Goals as goal

pub rules-preserved : goal.rules-preserved
rules-preserved c =
    let g = c.args.g.now in
    let its : c.items_of.result.now ≡ items c.args.g.now (length c.rules.rows.items) = c.items_of.ensures.items ∙ ap (items g) (sym c.rules.invariant.long) in
    let begin_is : c.len-begin.result ≡ length c.rules.all.items = omega (arith, c.len-begin.ensures) in
    let end_is : c.len-end.result ≡ length c.push_row.new.all.items = omega (arith, c.len-end.ensures) in
    record {
      long = omega (arith, c.in_ok-push.ensures.len, c.rules.invariant.long);
      within = c.in_ok-push_row.ensures.within;
      rows = rows_put g c.rules.text.items c.push_row.new.text.items c.rules.all.items c.push_row.new.all.items c.rules.rows.items c.push.new.self.items c.items_of.result.now c.len-begin.result c.len-end.result
          c.rules.invariant.rows c.rules.invariant.within its c.in_ok-push_row.ensures begin_is end_is c.in_ok-push.ensures.items;
    }
