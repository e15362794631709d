use Rattle.std.proofs.Common.{◌≡◌, ℕ, Some, length, slice_get}
use Rattle.xs_outline.specs.declared.slot_table.SlotTable.{SlotTable}
use Rattle.xs_outline.specs.Tables.{IsTable}
use Rattle.xs_outline.proofs.slot_table.tables.Given as goal

abbrev pub invariant-rules : goal.invariant-rules
invariant-rules l = record {
  long : length l.rows.items ≡ l.rule;
  each : (q : ℕ) (row : SlotTable) → slice_get l.rows.items q ≡ Some row → IsTable l.two q row;
}
