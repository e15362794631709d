use Rattle.std.proofs.Common.{◌≡◌, ◌<◌, ℕ}
use Rattle.xs_cover.specs.Picks.{ArePicks, IsSetIn}
use Rattle.xs_cover.proofs.picks.Picks.begin.Given as goal

abbrev pub invariant-rules : goal.invariant-rules
invariant-rules l = record {
  picks : ArePicks l.two.text l.two.xml l.self;
  prices : l.self.prices ≡ l.initial.self.prices;
  set : (r : ℕ) → r < l.rule → IsSetIn l.two.text l.two.xml l.self r;
}
