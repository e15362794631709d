use Rattle.std.proofs.Common.{◌≡◌, drop}
use Rattle.xs_table_out.specs.declared.children.Begin.TheVariants.{Here}
use Rattle.xs_table_out.specs.Children.{child_at}
use Rattle.xs_table_out.proofs.children.child_at.Given as goal

abbrev pub invariant-items : goal.invariant-items
invariant-items l = child_at l.begin l.dot l.slot (drop l.dot l.items) ≡ child_at Here 0 l.slot l.items
