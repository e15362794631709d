use Rattle.std.proofs.Common.{◌↔◌, ◌≤◌}
use Rattle.xs_regex.specs.declared.regex.Regex.{Regex, size-Regex}
use Rattle.xs_regex.specs.Size.{HasMembers}
use Rattle.xs_wf.proofs.units.+has_members.Given as goal

pub record IsPassed (whole rest : Regex) : Type 0 where
  pub same : HasMembers rest ↔ HasMembers whole
  pub no_deeper : size-Regex rest ≤ size-Regex whole

abbrev pub invariant-parts : goal.invariant-parts
invariant-parts l = IsPassed l.regex l.rest
