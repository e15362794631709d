use Rattle.std.proofs.Common.{◌⊎◌, ◌<◌, ℕ, length}
use Rattle.xs_cover.specs.Picks.{ArePicks, HaveGrown, IsSetIn, WaitsFor}
use Rattle.xs_cover.proofs.picks.Picks.release.Given as goal

abbrev pub invariant-waiters : goal.invariant-waiters
invariant-waiters l = record {
  picks : ArePicks l.two.text l.two.xml l.self;
  grown : HaveGrown l.initial.self l.self;
  set : (r : ℕ) → r < length l.two.text.rules → IsSetIn l.two.text l.two.xml l.self r ⊎ WaitsFor l.initial.self.waiting.items l.non l.place r;
}
