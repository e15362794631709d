use Rattle.xs_screen.specs.Parting.{Parts, IsRowSettled, StaySettled, IsOfRow}
use Rattle.xs_screen.proofs.groups.part_row.Given as goal

abbrev pub invariant-seconds : goal.invariant-seconds
invariant-seconds l = record {
  parts : Parts l.initial.labels l.labels;
  stay : StaySettled l.contents l.initial.labels l.labels (IsOfRow l.first);
  row : IsRowSettled l.contents l.labels l.first l.second;
}
