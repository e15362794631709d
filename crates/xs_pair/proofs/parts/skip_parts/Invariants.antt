use Rattle.std.proofs.Common.{take}
use Rattle.xs_gram.specs.declared.parts.SkipPart.{SkipPart}
use Rattle.xs_gram.specs.Building.{EachOf, IsFit}
use Rattle.xs_pair.specs.Grammars.{AreSkipsOf}
use Rattle.xs_pair.proofs.parts.skip_parts.Given as goal

abbrev pub invariant-units : goal.invariant-units
invariant-units l = AreSkipsOf (take l.unit-index l.units) l.parts.items × EachOf (λ (k : SkipPart). IsFit k.regex) l.parts.items
