use Rattle.xs_gram.proofs.Cuts.{cuts_are_one}
use Rattle.xs_gram.proofs.laws.cuts_are_one.Goals as goal

pub returns : goal.returns
returns c = cuts_are_one
