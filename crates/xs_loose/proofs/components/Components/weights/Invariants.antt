use Rattle.xs_loose.specs.Weighing.{AreWeightsBefore}
use Rattle.xs_loose.proofs.components.Components.weights.Given as goal

abbrev pub invariant-components : goal.invariant-components
invariant-components l = AreWeightsBefore l.g l.comps l.component l.weights.items
