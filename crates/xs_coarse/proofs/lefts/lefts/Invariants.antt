use Rattle.std.proofs.Common.{◌≡◌}
use Rattle.xs_coarse.specs.Labels.{lefts_before}
use Rattle.xs_coarse.proofs.lefts.lefts.Given as goal

abbrev pub invariant-rules : goal.invariant-rules
invariant-rules l = l.lefts.items ≡ lefts_before l.g l.rule
