use Rattle.std.proofs.Common.{◌≡◌, ◌++◌, ◌∙◌, List, length, map, ap, sym, arith}
use Rattle.xs_gram.specs.declared.parts.GItem.{GItem}
use Rattle.xs_gram.specs.Grammar.{items}
use Rattle.xs_gram.specs.Common.{spelling}
use Rattle.xs_table_out.specs.Steps.{step_of}
use Rattle.xs_table_out.proofs.Laying.{rows_push}
use Rattle.xs_table_out.proofs.layout.steps_of.Goals as goal

pub rules-preserved : goal.rules-preserved
rules-preserved c =
    let begin_is : c.len-begin.result ≡ length c.rules.all.items = omega (arith, c.len-begin.ensures) in
    let end_is : c.len-end.result ≡ length c.push_steps.new.all.items = omega (arith, c.len-end.ensures) in
    let rule = sym c.rules.invariant.long in
    record {
      long = omega (arith, c.in_ok-push.ensures.len, c.rules.invariant.long);
      rows = rows_push c.args.g.now c.args.h.now c.args.pieces.text.items c.rules.all.items c.push_steps.new.all.items c.rules.rows.items c.push.new.self.items c.len-begin.result c.len-end.result c.pieces_at.result.now
          c.rules.invariant.rows (λ at. c.pieces_at.ensures at ∙ ap (λ n. spelling c.args.h.now (items c.args.h.now n) at) rule)
          (c.in_ok-push_steps.ensures ∙ ap (λ (l : List GItem). c.rules.all.items ++ map (step_of l) c.pieces_at.result.now) (c.items.ensures.items ∙ ap (items c.args.g.now) rule))
          begin_is end_is c.in_ok-push.ensures.items;
    }
