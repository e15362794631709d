use Rattle.std.proofs.Common.{◌≡◌, drop}
use Rattle.xs_xml_laws.specs.Scan.{after}
use Rattle.xs_form.proofs.runs.after_prefix.Given as goal

abbrev pub invariant-bytes : goal.invariant-bytes
invariant-bytes l = after l.prefix l.text ≡ after (drop l.byte-index l.prefix) l.rest
