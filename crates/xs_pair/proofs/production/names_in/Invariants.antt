use Rattle.std.proofs.Common.{◌≡◌, take}
use Rattle.xs_pair.specs.Listing as L
use Rattle.xs_pair.proofs.production.names_in.Given as goal

abbrev pub invariant-rules : goal.invariant-rules
invariant-rules l = l.names.items ≡ L.names_in (take l.rule-index l.rules)
