use Rattle.std.proofs.Common.{◌∙◌, sym, subst, arith, length, length-append, ap, List, ◌∷◌, []}
use Rattle.std.specs.Prelude.{slice_get}
use Rattle.xs_outline.specs.declared.slot_table.SlotTable.{SlotTable}
use Rattle.xs_outline.specs.Tables.{IsTable}
use Rattle.xs_outline.proofs.SlotTables.{row_push}
use Rattle.xs_outline.proofs.slot_table.tables.Goals as goal

pub rules-preserved : goal.rules-preserved
rules-preserved c =
    let pushed = c.in_ok-push.ensures.items in
    record {
      long = let n = ap (λ (z : List SlotTable). length z) pushed in omega (arith, n, c.rules.invariant.long, length-append c.rules.rows.items (c.in_ok-row.row ∷ []));
      each = λ q r is. row_push (λ k x. IsTable c.args.two.now k x) c.rules.rows.items c.in_ok-row.row c.rules.invariant.each
          (subst (λ k. IsTable c.args.two.now k c.in_ok-row.row) (sym c.rules.invariant.long) c.in_ok-row.ensures) q r (sym (ap (λ (z : List SlotTable). slice_get z q) pushed) ∙ is);
    }
