use Rattle.std.proofs.Common.{◌≡◌, ℕ, ◌<◌, ◌-◌, true, false}
use Rattle.xs_auto.specs.Nets.{final_at}
use Rattle.xs_closed.specs.Rows.{marked}
use Rattle.xs_closed.proofs.testing.rows.has_finals.Given as goal

abbrev pub invariant-partners : goal.invariant-partners
invariant-partners l = (b : ℕ) → b < l.from → marked l.set l.a b ≡ true → final_at l.n b ≡ false

abbrev pub decreases-partners : goal.decreases-partners
decreases-partners l = l.set.wide - l.from
