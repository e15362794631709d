use Rattle.xs_wf.proofs.Wordless.{AreProductiveBelow}
use Rattle.xs_wf.proofs.nonterminals.first_unset.Given as goal

abbrev pub invariant-nons : goal.invariant-nons
invariant-nons l = AreProductiveBelow l.two l.non
