use Rattle.std.proofs.Common.{take}
use Rattle.xs_gram.specs.Building.{EachOf, IsFit}
use Rattle.xs_pair.specs.Grammars.{AreTermsOf}
use Rattle.xs_pair.proofs.parts.regexes.Given as goal

abbrev pub invariant-units : goal.invariant-units
invariant-units l = AreTermsOf (take l.unit-index l.units) l.regexes.items × EachOf IsFit l.regexes.items
