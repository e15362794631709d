use Rattle.std.proofs.Common.{◌≡◌, ◌++◌}
use Rattle.xs_gram.specs.Building.{EachOf, IsFit, AreIgnorables}
use Rattle.std.specs.Vec.Iter.{into_iter_items}
use Rattle.xs_gram.proofs.automata.ignorables.Given as goal

abbrev pub invariant-parts : goal.invariant-parts
invariant-parts l = record {
  whole : l.yielded ++ into_iter_items l.part-iterator ≡ l.fn.parts.items;
  rest : EachOf (λ k. IsFit k.regex) (into_iter_items l.part-iterator);
  made : AreIgnorables l.yielded l.skips.items;
}
