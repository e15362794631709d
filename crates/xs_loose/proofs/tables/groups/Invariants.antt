use Rattle.std.proofs.Common.{◌≡◌}
use Rattle.xs_loose.specs.Groups.{groups_before}
use Rattle.xs_loose.specs.Tables.{AreNumbersBefore}
use Rattle.xs_loose.proofs.tables.groups.Given as goal

abbrev pub invariant-rules : goal.invariant-rules
invariant-rules l = record {
  number : l.number ≡ groups_before l.g l.rule;
  groups : AreNumbersBefore l.g l.rule l.groups.items;
}
