use Rattle.std.proofs.Common.{◌≡◌, drop, map}
use Rattle.xs_xml_laws.specs.Piece.{same, lower}
use Rattle.xs_form.proofs.runs.spells_in_any_case.Given as goal

abbrev pub invariant-symbols : goal.invariant-symbols
invariant-symbols l = same (map lower l.text) l.word ≡ same (map lower (drop l.symbol-index l.text)) l.rest
