use Rattle.std.proofs.Common.{◌≡◌, length}
use Rattle.xs_loose.specs.Components.{AreListed}
use Rattle.xs_loose.proofs.components.listed.Given as goal

abbrev pub invariant-keys : goal.invariant-keys
invariant-keys l = record {
  counted : length l.lists.items ≡ l.count;
  lists : AreListed l.keys l.place l.lists.items;
}
