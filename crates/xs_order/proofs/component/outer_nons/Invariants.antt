use Rattle.std.proofs.Common.{◌++◌, ◌≤◌, ℕ, List, length, drop}
use Rattle.xs_gram.specs.Fences.{spread, IsLevel}
use Rattle.xs_order.specs.Outer.{AreOuterNons}
use Rattle.xs_order.proofs.component.outer_nons.Given as goal

abbrev pub invariant-items : goal.invariant-items
invariant-items l = record {
  later : l.place ≤ l.next;
  within : l.next ≤ length (spread l.g l.rule);
  level : IsLevel l.g.fences (drop l.next (spread l.g l.rule));
  so_far : (ns : List ℕ) → AreOuterNons l.g.fences (drop l.next (spread l.g l.rule)) ns → AreOuterNons l.g.fences (spread l.g l.rule) (l.nons ++ ns);
}
