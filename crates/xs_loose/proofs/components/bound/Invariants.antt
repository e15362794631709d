use Rattle.std.proofs.Common.{◌<◌, take}
use Rattle.std.specs.List.{All}
use Rattle.xs_loose.proofs.components.bound.Given as goal

abbrev pub invariant-keys : goal.invariant-keys
invariant-keys l = All (λ k. k < l.bound) (take l.key-index l.keys)
