use Rattle.std.proofs.Common.{ℕ, ◌<◌, ◌≤◌}
use Rattle.std.specs.List.{All}
use Rattle.xs_coarse.specs.Found.{HasPair, IsInside}
use Rattle.xs_coarse.proofs.search.push_end_pairs.Given as goal

abbrev pub invariant-firsts : goal.invariant-firsts
invariant-firsts l = record {
  inside : All (IsInside l.net.states l.net.states) l.pairs.items;
  each : (a b : ℕ) → l.gate ≤ a → a < l.first → l.here ≤ b → b < l.net.states → HasPair l.pairs.items a b;
}
