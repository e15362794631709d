use Rattle.std.proofs.Common.{◌≡◌, ℕ, ◌<◌, ◌-◌, true}
use Rattle.xs_closed.specs.Rows.{marked}
use Rattle.xs_closed.proofs.testing.cut.is_turned_row.Given as goal

abbrev pub invariant-partners : goal.invariant-partners
invariant-partners l = (b : ℕ) → b < l.from → marked l.set l.a b ≡ true → marked l.into b l.r ≡ true

abbrev pub decreases-partners : goal.decreases-partners
decreases-partners l = l.set.wide - l.from
