use Rattle.std.proofs.Common.{◌≡◌, ◌++◌, take}
use Rattle.xs_gram.specs.Fences.{spread}
use Rattle.xs_coarse.specs.Labels.{lefts_of}
use Rattle.xs_coarse.proofs.lefts.push_lefts.Given as goal

abbrev pub invariant-items : goal.invariant-items
invariant-items l = l.lefts.items ≡ l.fn.lefts.items ++ lefts_of l.g.fences (take l.place (spread l.g l.rule))
