use Rattle.std.proofs.Common.{◌↔◌, ◌≤◌, ℕ, List}
use Rattle.xs_regex.specs.declared.regex.Regex.{Regex, size-Regex}
use Rattle.xs_pair.specs.Fences.{HasSomeOf}
use Rattle.xs_pair.proofs.inside.+has_some_of.Given as goal

pub record IsPassed (letters : List ℕ) (whole rest : Regex) : Type 0 where
  pub same : HasSomeOf letters rest ↔ HasSomeOf letters whole
  pub no_deeper : size-Regex rest ≤ size-Regex whole

abbrev pub invariant-parts : goal.invariant-parts
invariant-parts l = IsPassed l.letters l.regex l.rest
