use Rattle.std.proofs.Common.{◌≡◌, ◌++◌}
use Rattle.xs_gram.specs.Building.{EachOf, IsFit, AreTerminals}
use Rattle.std.specs.Vec.Iter.{into_iter_items}
use Rattle.xs_gram.proofs.automata.terminals.Given as goal

abbrev pub invariant-regexes : goal.invariant-regexes
invariant-regexes l = record {
  whole : l.yielded ++ into_iter_items l.regex-iterator ≡ l.fn.regexes.items;
  rest : EachOf IsFit (into_iter_items l.regex-iterator);
  made : AreTerminals l.yielded l.terms.items;
}
