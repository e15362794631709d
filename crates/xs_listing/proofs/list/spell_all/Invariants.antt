use Rattle.xs_listing.specs.Numbered.{AreSpeltBy}
use Rattle.xs_listing.proofs.list.spell_all.Given as goal

abbrev pub invariant-numbers : goal.invariant-numbers
invariant-numbers l = AreSpeltBy l.source l.root l.number l.trees.items
