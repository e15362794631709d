use Rattle.std.proofs.Common.{◌≡◌, ◌++◌, ◌-◌}
use Rattle.xs_gram.specs.Places.{insides}
use Rattle.xs_gram.proofs.body.push_insides.Given as goal

abbrev pub invariant-positions : goal.invariant-positions
invariant-positions l = l.places.items ++ insides l.rule l.dot l.k (l.count - l.k) ≡ l.fn.places.items ++ insides l.rule l.dot 0 l.count
