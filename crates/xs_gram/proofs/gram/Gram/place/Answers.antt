use Rattle.xs_gram.proofs.Numbers.{listed_is_place}
use Rattle.xs_gram.proofs.gram.Gram.place.Goals as goal

pub returns-clause-is : goal.returns-clause-is
returns-clause-is c = listed_is_place c.args.self.now c.listed.result c.args.k c.listed.ensures
