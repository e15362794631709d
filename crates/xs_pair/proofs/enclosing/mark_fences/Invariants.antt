use Rattle.std.proofs.Common.{◌≡◌}
use Rattle.xs_pair.specs.Fences.{mark_pairs}
use Rattle.xs_pair.proofs.enclosing.mark_fences.Given as goal

abbrev pub invariant-names : goal.invariant-names
invariant-names l = l.fences.items ≡ mark_pairs 0 l.name
