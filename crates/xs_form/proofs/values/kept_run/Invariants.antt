use Rattle.std.proofs.Common.{◌≡◌, length, ◌-◌, ◌≤◌, ◌++◌, take, drop}
use Rattle.xs_form.specs.Values.{is_kept}
use Rattle.xs_xml_laws.specs.Scan.{span}
use Rattle.xs_form.proofs.values.kept_run.Given as goal

abbrev pub invariant-run : goal.invariant-run
invariant-run l = record {
  within : l.end ≤ length l.text;
  so_far : span (is_kept l.quote) l.text ≡ (take l.end l.text ++ (span (is_kept l.quote) (drop l.end l.text)).0, (span (is_kept l.quote) (drop l.end l.text)).1);
}

abbrev pub decreases-run : goal.decreases-run
decreases-run l = length l.text - l.end
