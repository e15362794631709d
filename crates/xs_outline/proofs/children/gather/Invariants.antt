use Rattle.std.proofs.Common.{◌≡◌, ℕ, ◌<◌, length, slice_get}
use Rattle.xs_outline.specs.Reader.{child_at, with_child}
use Rattle.xs_outline.proofs.children.gather.Given as goal

abbrev pub invariant-slots : goal.invariant-slots
invariant-slots l = record {
  long : length l.kids.items ≡ l.slot;
  each : (s : ℕ) → s < l.slot → slice_get l.kids.items s ≡ with_child (child_at l.children l.node) l.last l.part s;
}
