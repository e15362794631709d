use Rattle.std.proofs.Common.{ℕ, sym, subst, length, inr}
use Rattle.xs_gram.specs.Building.{NamesThere}
use Rattle.xs_loose.proofs.Items.{no_member, has_weight}
use Rattle.xs_loose.proofs.weighing.item_count.Goals as goal

pub member_of-requires : goal.member_of-requires
member_of-requires c = (length c.args.g.now.terms, length c.args.g.now.skips, subst (λ (n : ℕ). NamesThere n (length c.args.g.now.terms) (length c.args.g.now.skips) c.args.item.now) (sym c.requires.comps.counted) c.requires.there)

pub item_weight-requires-clause-weight : goal.item_weight-requires-clause-weight
item_weight-requires-clause-weight c = has_weight c.args.g.now c.args.comps.now c.args.weights.now c.args.component c.args.item.now c.requires.before c.requires.there c.requires.under c.in-None.ensures.none

pub returns-in-None : goal.returns-in-None
returns-in-None c = λ m of. inr (no_member c.args.g.now c.args.comps.now c.requires.comps c.args.component m of c.args.item.now c.requires.there c.in-None.ensures.none, c.item_weight.ensures)
