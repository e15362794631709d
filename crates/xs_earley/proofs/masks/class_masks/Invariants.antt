use Rattle.std.proofs.Common.{◌≡◌, length}
use Rattle.xs_earley.specs.Masks.{AreClassMasks}
use Rattle.xs_earley.proofs.masks.class_masks.Given as goal

abbrev pub invariant-classes : goal.invariant-classes
invariant-classes l = record {
  counted : length l.masks.items ≡ l.class;
  known : AreClassMasks l.atoms l.masks.items;
}
