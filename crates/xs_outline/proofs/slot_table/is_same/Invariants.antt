use Rattle.std.proofs.Common.{◌≡◌, take}
use Rattle.xs_outline.proofs.slot_table.is_same.Given as goal

abbrev pub invariant-symbols : goal.invariant-symbols
invariant-symbols l = take l.place l.one ≡ take l.place l.other
