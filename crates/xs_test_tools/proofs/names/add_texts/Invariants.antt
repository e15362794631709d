use Rattle.std.proofs.Common.{◌≡◌, vec_len}
use Rattle.xs_test_tools.proofs.names.add_texts.Given as goal

abbrev pub invariant-texts : goal.invariant-texts
invariant-texts l = vec_len l.list ≡ l.text-index
