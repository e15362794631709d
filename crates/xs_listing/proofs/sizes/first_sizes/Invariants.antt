use Rattle.std.proofs.Common.{◌≡◌, length}
use Rattle.xs_listing.specs.Sizes.{AreSizes}
use Rattle.xs_listing.proofs.sizes.first_sizes.Given as goal

abbrev pub invariant-rows : goal.invariant-rows
invariant-rows l = record {
  long : length l.sizes.items ≡ l.row;
  sizes : AreSizes l.g l.doc l.forest l.sizes.items;
}
