use Rattle.std.proofs.Common.{ℕ, ◌<◌, IfSome}
use Rattle.xs_screen.proofs.cuts.last_doubted.Given as goal

abbrev pub invariant-places : goal.invariant-places
invariant-places l = IfSome l.last (λ (top : ℕ). top < l.cover.net.states)
