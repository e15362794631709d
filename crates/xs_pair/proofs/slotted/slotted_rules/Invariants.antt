use Rattle.std.proofs.Common.{◌≡◌, ◌++◌, length}
use Rattle.std.specs.Vec.Iter.{into_iter_items, into_iter_len}
use Rattle.xs_pair.proofs.slotted.slotted_rules.Given as goal

abbrev pub invariant-rules : goal.invariant-rules
invariant-rules l = record {
  rest : l.yielded ++ into_iter_items l.rule-iterator ≡ into_iter_items l.initial.rule-iterator;
  done : l.slotted.items ≡ l.yielded;
  long : into_iter_len l.rule-iterator ≡ length (into_iter_items l.rule-iterator);
}
