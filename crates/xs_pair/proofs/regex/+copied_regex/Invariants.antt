use Rattle.std.proofs.Common.{◌≤◌, List, length}
use Rattle.xs_regex.specs.declared.regex.Regex.{Regex}
use Rattle.xs_regex.proofs.Passed.{nodes}
use Rattle.xs_pair.specs.declared.regex.Frame.{Frame}
use Rattle.xs_pair.proofs.RegexFrames.{IsWithin, IsCopyWithin}
use Rattle.xs_pair.proofs.regex.+copied_regex.Given as goal

pub record IsPassed (frames : List Frame) (whole rest : Regex) : Type 0 where
  pub within : IsWithin frames whole rest
  pub no_larger : nodes rest ≤ nodes whole

abbrev pub decreases-copied_regex : goal.decreases-copied_regex
decreases-copied_regex l = nodes l.regex.now

abbrev pub invariant-parts : goal.invariant-parts
invariant-parts l = IsPassed l.frames.items l.regex l.rest

abbrev pub decreases-parts : goal.decreases-parts
decreases-parts l = nodes l.rest

abbrev pub invariant-frames : goal.invariant-frames
invariant-frames l = IsCopyWithin l.frames.items l.regex l.copy

abbrev pub decreases-frames : goal.decreases-frames
decreases-frames l = length l.frames.items
