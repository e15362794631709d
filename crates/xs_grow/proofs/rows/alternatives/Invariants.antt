use Rattle.std.proofs.Common.{take}
use Rattle.xs_grow.specs.Making.{AreMade, Misses}
use Rattle.xs_grow.proofs.rows.alternatives.Given as goal

abbrev pub invariant-numbers : goal.invariant-numbers
invariant-numbers l = Misses l.source.g.now l.source.doc.now l.forest (AreMade l.source.g.now l.forest l.key (take l.number-index l.numbers) l.alts.items) l.initial.missing.items l.missing.items
