use Rattle.std.proofs.Common.{ℕ, ◌-◌, ◌<◌, ◌≤◌}
use Rattle.xs_gram.specs.Cuts.{ReachesTo}
use Rattle.xs_gram.proofs.cutting.round.Given as goal

abbrev pub invariant-items : goal.invariant-items
invariant-items l = (j : ℕ) → l.c - l.done ≤ j → j < l.c → ¬ ReachesTo l.partners l.c j
