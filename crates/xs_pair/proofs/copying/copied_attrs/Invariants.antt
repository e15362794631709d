use Rattle.std.proofs.Common.{◌≡◌, take}
use Rattle.xs_pair.proofs.copying.copied_attrs.Given as goal

abbrev pub invariant-attrs : goal.invariant-attrs
invariant-attrs l = l.all.items ≡ take l.attr-index l.attrs
