use Rattle.std.proofs.Common.{ℕ, ◌<◌, ◌≤◌}
use Rattle.std.specs.List.{All}
use Rattle.xs_coarse.specs.Found.{HasPair, IsInside, IsLonger}
use Rattle.xs_coarse.proofs.search.push_row.Given as goal

abbrev pub invariant-seconds : goal.invariant-seconds
invariant-seconds l = record {
  longer : IsLonger l.initial.pairs.items l.pairs.items;
  inside : All (IsInside l.end l.end) l.initial.pairs.items → All (IsInside l.end l.end) l.pairs.items;
  each : (b : ℕ) → l.begin ≤ b → b < l.second → HasPair l.pairs.items l.first b;
}
