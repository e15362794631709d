use Rattle.std.proofs.Common.{◌≡◌, ◌++◌}
use Rattle.xs_leiden.specs.Made.{lines, after_lines}
use Rattle.xs_leiden.proofs.lines.push_lines.Given as goal

abbrev pub invariant-lines : goal.invariant-lines
invariant-lines l = (l.text ≡ l.fn.text ++ lines l.before l.fn.draws.state) × (l.draws.state ≡ after_lines l.before l.fn.draws.state)
