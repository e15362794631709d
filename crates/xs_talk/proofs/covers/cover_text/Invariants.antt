use Rattle.std.proofs.Common.{◌≡◌, ◌+◌, ◌++◌, ◌≤◌, drop}
use Rattle.xs_talk.specs.Covers.{lines_from, reached}
use Rattle.xs_talk.proofs.covers.cover_text.Given as goal

abbrev pub invariant-productions : goal.invariant-productions
invariant-productions l = record {
  numbers : l.number ≡ l.shown-index;
  counts : l.count + reached (drop l.shown-index l.all) ≡ reached l.all;
  few : l.count ≤ l.shown-index;
  lines : l.out ++ lines_from l.names (l.number + 1) (drop l.shown-index l.all) ≡ lines_from l.names 1 l.all;
}
