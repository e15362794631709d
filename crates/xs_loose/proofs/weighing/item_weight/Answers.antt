use Rattle.xs_loose.proofs.Items.{fixed_weight, term_weight, skip_weight, non_weight}
use Rattle.xs_loose.proofs.weighing.item_weight.Goals as goal

pub returns-in-Fixed : goal.returns-in-Fixed
returns-in-Fixed c = fixed_weight c.args.g.now c.args.item.now c.in-Fixed.word c.len.result c.in-Fixed.is c.len.ensures

pub returns-in-Term : goal.returns-in-Term
returns-in-Term c = term_weight c.args.g.now c.args.item.now c.in-Term.term c.in-Term.slot c.len-in-Term.result c.term.result.now c.requires.built c.in-Term.is c.requires.there c.term.ensures c.len-in-Term.ensures

pub returns-in-Non : goal.returns-in-Non
returns-in-Non c = non_weight c.args.g.now c.args.item.now c.args.weights.now c.in-Non.non c.in-Non.slot c.in-Non.is c.requires.weight

pub returns-in-Skip : goal.returns-in-Skip
returns-in-Skip c = skip_weight c.args.g.now c.args.item.now c.in-Skip.skip c.len-in-Skip.result c.skip.result.now c.requires.built c.in-Skip.is c.requires.there c.skip.ensures c.len-in-Skip.ensures
