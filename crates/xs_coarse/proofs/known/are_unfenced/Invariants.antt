use Rattle.std.proofs.Common.{ℕ, ◌<◌, [], get_or}
use Rattle.xs_gram.specs.Fences.{IsUnfenced}
use Rattle.xs_coarse.proofs.known.are_unfenced.Given as goal

abbrev pub invariant-classes : goal.invariant-classes
invariant-classes l = (c : ℕ) → c < l.class-index → IsUnfenced l.fences (get_or l.classes c [])
