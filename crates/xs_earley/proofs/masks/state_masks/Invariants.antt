use Rattle.xs_earley.specs.Masks.{AreMasks}
use Rattle.xs_earley.proofs.masks.state_masks.Given as goal

abbrev pub invariant-states : goal.invariant-states
invariant-states l = AreMasks l.g l.facts l.state l.masks.items
