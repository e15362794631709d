use Rattle.xs_searches.specs.Insides.{IsGreatest}
use Rattle.xs_searches.proofs.weights.insides_weight.Given as goal

abbrev pub invariant-places : goal.invariant-places
invariant-places l = IsGreatest l.g l.rule l.place l.greatest
