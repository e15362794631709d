use Rattle.std.proofs.Common.{drop}
use Rattle.xs_class.specs.Classes.{Has}
use Rattle.xs_pair.specs.Rules.{SomeOf}
use Rattle.xs_pair.proofs.inside.has_one.Given as goal

abbrev pub invariant-letters : goal.invariant-letters
invariant-letters l = SomeOf (Has l.class) l.letters → SomeOf (Has l.class) (drop l.letter-index l.letters)
