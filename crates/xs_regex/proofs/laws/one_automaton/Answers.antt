use Rattle.xs_regex.proofs.Shapes.{one_automaton}
use Rattle.xs_regex.proofs.laws.one_automaton.Goals as goal

pub returns : goal.returns
returns c = one_automaton
