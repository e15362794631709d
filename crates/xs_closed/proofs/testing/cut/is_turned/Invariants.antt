use Rattle.std.proofs.Common.{◌≡◌, ℕ, ◌<◌, true}
use Rattle.xs_auto.specs.Nets.{final_at}
use Rattle.xs_closed.specs.Rows.{marked}
use Rattle.xs_closed.proofs.testing.cut.is_turned.Given as goal

abbrev pub invariant-rows : goal.invariant-rows
invariant-rows l = (x b : ℕ) → x < l.a → marked l.set x b ≡ true → final_at l.front x ≡ true → marked l.into b l.r ≡ true
