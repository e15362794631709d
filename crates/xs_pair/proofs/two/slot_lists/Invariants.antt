use Rattle.std.proofs.Common.{◌≡◌, ◌++◌, map, length}
use Rattle.std.specs.Vec.Iter.{into_iter_items, into_iter_len}
use Rattle.xs_pair.specs.declared.production.Rule.{Rule}
use Rattle.xs_pair.specs.Marks.{slot_names}
use Rattle.xs_pair.proofs.two.slot_lists.Given as goal

abbrev pub invariant-rules : goal.invariant-rules
invariant-rules l = record {
  rest : l.yielded ++ into_iter_items l.rule-iterator ≡ into_iter_items l.initial.rule-iterator;
  done : l.lists.items ≡ map (λ (r : Rule). slot_names r.left) l.yielded;
  long : into_iter_len l.rule-iterator ≡ length (into_iter_items l.rule-iterator);
}
