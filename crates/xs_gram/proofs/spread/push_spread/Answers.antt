use Rattle.xs_gram.proofs.Spreading.{fixed_spread}
use Rattle.xs_gram.proofs.spread.push_spread.Goals as goal

pub returns-in_ok-push_split-in-Fixed : goal.returns-in_ok-push_split-in-Fixed
returns-in_ok-push_split-in-Fixed c = λ rest. fixed_spread c.args.fences.now c.in-Fixed.word c.args.item.now c.push_split.new.out.items c.args.out.now.items rest c.in-Fixed.is c.in_ok-push_split-in-Fixed.ensures
