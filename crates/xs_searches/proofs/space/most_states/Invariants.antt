use Rattle.std.proofs.Common.{ℕ, ◌<◌, ◌≤◌}
use Rattle.xs_auto.specs.Nets.{states}
use Rattle.xs_auto.specs.Nests.{group_at}
use Rattle.xs_searches.proofs.space.most_states.Given as goal

abbrev pub invariant-groups : goal.invariant-groups
invariant-groups l = (h : ℕ) → h < l.group → states (group_at l.nest h).content ≤ l.most
