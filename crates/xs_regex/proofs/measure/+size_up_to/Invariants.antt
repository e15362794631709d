use Rattle.std.proofs.Common.{◌≡◌, ◌+◌, ◌≤◌, ℕ, min}
use Rattle.xs_regex.specs.declared.regex.Regex.{Regex, size-Regex}
use Rattle.xs_regex.specs.Size.{size}
use Rattle.xs_regex.proofs.measure.+size_up_to.Given as goal

pub record IsPassed (whole rest : Regex) (passed : ℕ) : Type 0 where
  pub bound : passed ≤ 513
  pub size_is : min (passed + size rest) 513 ≡ min (size whole) 513
  pub no_deeper : size-Regex rest ≤ size-Regex whole

abbrev pub invariant-parts : goal.invariant-parts
invariant-parts l = IsPassed l.r l.rest l.passed
