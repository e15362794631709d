use Rattle.xs_cover.specs.Kept.{IsReadIn}
use Rattle.xs_cover.proofs.trees.Trees.of.Given as goal

abbrev pub invariant-rows : goal.invariant-rows
invariant-rows l = IsReadIn l.two l.tables l.trees l.at
