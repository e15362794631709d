use Rattle.std.proofs.Common.{ℕ, ◌≡◌, ◌+◌, take}
use Rattle.std.specs.List.{All}
use Rattle.xs_coarse.specs.Coarse.{IsWithin}
use Rattle.xs_coarse.proofs.TailArcs.{IsKept}
use Rattle.xs_coarse.proofs.tail.arcs_from.Given as goal

abbrev pub invariant-arcs : goal.invariant-arcs
invariant-arcs l = record {
  has : All (IsKept l.gate l.arcs.items) (take l.x-index l.net.arcs);
  within : (states : ℕ) → l.gate + states ≡ l.net.states → All (IsWithin states) l.arcs.items;
}
