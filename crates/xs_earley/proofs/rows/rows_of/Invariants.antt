use Rattle.xs_earley.specs.Facts.{AreRows}
use Rattle.xs_earley.proofs.rows.rows_of.Given as goal

abbrev pub invariant-places : goal.invariant-places
invariant-places l = AreRows l.g l.letters.items l.number l.rows.items
