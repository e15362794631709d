use Rattle.std.proofs.Common.{◌≡◌, ◌<◌, ℕ, length}
use Rattle.xs_cover.specs.Picks.{ArePicks, IsSetIn}
use Rattle.xs_cover.proofs.picks.Picks.settle.Given as goal

abbrev pub invariant-entries : goal.invariant-entries
invariant-entries l = record {
  picks : ArePicks l.two.text l.two.xml l.self;
  terms : l.self.prices.terms.items ≡ l.initial.self.prices.terms.items;
  set : (r : ℕ) → r < length l.two.text.rules → IsSetIn l.two.text l.two.xml l.self r;
}
