use Rattle.std.proofs.Common.{◌≡◌, ◌++◌, drop}
use Rattle.xs_script.specs.Playing.{ranges_text}
use Rattle.xs_script.proofs.answering.push_ranges.Given as goal

abbrev pub invariant-ranges-2 : goal.invariant-ranges-2
invariant-ranges-2 l = l.out ++ ranges_text l.names (drop l.range-index l.ranges) ≡ l.fn.out ++ ranges_text l.names l.ranges
