use Rattle.xs_check_laws.proofs.Walks.{words_are_the_yield}
use Rattle.xs_check_laws.proofs.laws.words_are_the_yield.Goals as goal

pub returns : goal.returns
returns c = words_are_the_yield
