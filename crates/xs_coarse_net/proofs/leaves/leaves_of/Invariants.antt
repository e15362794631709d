use Rattle.xs_gram.specs.Grammar.{IsTermWord, IsSkipWord}
use Rattle.xs_coarse_net.proofs.Leaving.{AreNetsBefore}
use Rattle.xs_coarse_net.proofs.leaves.leaves_of.Given as goal

abbrev pub invariant-terms : goal.invariant-terms
invariant-terms l = AreNetsBefore (IsTermWord l.g) l.labels l.term l.terms.items

abbrev pub invariant-skips : goal.invariant-skips
invariant-skips l = AreNetsBefore (IsSkipWord l.g) l.labels l.skip l.skips.items
