use Rattle.std.proofs.Common.{ℕ, [], ◌∷◌, subst}
use Rattle.xs_class.specs.Classes.{HaveSame}
use Rattle.xs_loose.proofs.Growing.{symbol_grows}
use Rattle.xs_loose.proofs.growth.read_symbol.Goals as goal

pub returns : goal.returns
returns c = symbol_grows _ _ c.in_ok-class.class c.args.from c.args.symbol c.args.to c.ranges-sorted.ensures.sorted (subst (λ (x : ℕ). HaveSame c.in_ok-class.class ((x, x) ∷ [])) c.number-number.ensures c.in_ok-class.ensures) c.in_ok-read.ensures
