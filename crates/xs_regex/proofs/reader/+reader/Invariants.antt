use Rattle.std.proofs.Common.{◌+◌, ◌*◌, ◌≤◌}
use Rattle.xs_regex.specs.Pattern.{both, either}
use Rattle.xs_regex.specs.Scan.{regex_at, pieces_at}
use Rattle.xs_regex.proofs.Fronts.{IsAfter}
use Rattle.xs_regex.proofs.reader.+reader.Given as goal

abbrev pub decreases-atom : goal.decreases-atom
decreases-atom l = 4 * l.steps

abbrev pub decreases-group : goal.decreases-group
decreases-group l = 4 * l.steps + 3

abbrev pub decreases-piece : goal.decreases-piece
decreases-piece l = 4 * l.steps + 1

abbrev pub decreases-pieces : goal.decreases-pieces
decreases-pieces l = 4 * l.steps + 1

abbrev pub invariant-pieces-pieces : goal.invariant-pieces-pieces
invariant-pieces-pieces l = (l.bound ≤ l.steps) × IsAfter both l.front.items (pieces_at l.steps l.depth l.cs) (pieces_at l.bound l.depth l.here)

abbrev pub decreases-pieces-pieces : goal.decreases-pieces-pieces
decreases-pieces-pieces l = l.bound

abbrev pub decreases-regex : goal.decreases-regex
decreases-regex l = 4 * l.steps + 2

abbrev pub invariant-regex-sequences : goal.invariant-regex-sequences
invariant-regex-sequences l = (l.bound ≤ l.steps) × IsAfter either l.front.items (regex_at l.steps l.depth l.cs) (regex_at l.bound l.depth l.here)

abbrev pub decreases-regex-sequences : goal.decreases-regex-sequences
decreases-regex-sequences l = l.bound

abbrev pub decreases-sequence : goal.decreases-sequence
decreases-sequence l = 4 * l.steps + 2
