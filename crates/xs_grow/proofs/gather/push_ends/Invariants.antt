use Rattle.std.proofs.Common.{◌≡◌, ◌++◌, map, take}
use Rattle.xs_forest_laws.specs.Forest.{key_at}
use Rattle.xs_grow.proofs.gather.push_ends.Given as goal

abbrev pub invariant-ends : goal.invariant-ends
invariant-ends l = l.candidates.items ≡ l.initial.candidates.items ++ map (λ end. (key_at l.what l.start end, l.place)) (take l.end-index l.ends)
