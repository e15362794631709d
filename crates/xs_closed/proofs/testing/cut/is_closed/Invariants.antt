use Rattle.std.proofs.Common.{◌≡◌, ℕ, ◌<◌, true}
use Rattle.xs_meet.specs.Closed.{Marked}
use Rattle.xs_closed.specs.Rows.{marked}
use Rattle.xs_closed.specs.Testing.{LeadsWithin}
use Rattle.xs_closed.proofs.testing.cut.is_closed.Given as goal

abbrev pub invariant-rows : goal.invariant-rows
invariant-rows l = (x b : ℕ) → x < l.a → marked l.set x b ≡ true → LeadsWithin (Marked (marked l.related)) l.m l.n l.set l.into x b
