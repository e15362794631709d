use Rattle.std.proofs.Common.{◌≡◌, length, ◌-◌, ◌≤◌, take, drop}
use Rattle.xs_xml_laws.specs.Scan.{cut, fronted}
use Rattle.xs_form.proofs.runs.cut_at.Given as goal

abbrev pub invariant-places : goal.invariant-places
invariant-places l = record {
  within : l.at ≤ length l.text;
  so_far : cut l.delimiter l.text ≡ fronted (take l.at l.text) (cut l.delimiter (drop l.at l.text));
}

abbrev pub decreases-places : goal.decreases-places
decreases-places l = length l.text - l.at
