use Rattle.std.proofs.Common.{◌≡◌, take}
use Rattle.xs_regex.proofs.compose.copied.Given as goal

abbrev pub invariant-classes : goal.invariant-classes
invariant-classes l = l.classes.items ≡ take l.class-index l.class-items
