use Rattle.std.proofs.Common.{◌≡◌, length, ◌-◌, ◌≤◌, ◌++◌, take, drop}
use Rattle.xs_xml_laws.specs.Scan.{span}
use Rattle.xs_form.proofs.runs.run.Given as goal

abbrev pub invariant-run : goal.invariant-run
invariant-run g l = record {
  within : l.end ≤ length l.text;
  so_far : span g.K.Kind.test l.text ≡ (take l.end l.text ++ (span g.K.Kind.test (drop l.end l.text)).0, (span g.K.Kind.test (drop l.end l.text)).1);
}

abbrev pub decreases-run : goal.decreases-run
decreases-run g l = length l.text - l.end
