use Rattle.std.proofs.Common.{◌≡◌, map, take}
use Rattle.xs_xml_out.specs.Tags.{tags_of}
use Rattle.xs_xml_out.proofs.tags.Tags.of.Given as goal

abbrev pub invariant-names : goal.invariant-names
invariant-names l = l.all.items ≡ map tags_of (take l.k l.names)
