use Rattle.std.proofs.Common.{◌≡◌, drop}
use Rattle.xs_xml_laws.specs.Piece.{all_of}
use Rattle.xs_form.proofs.runs.all.Given as goal

abbrev pub invariant-symbols : goal.invariant-symbols
invariant-symbols g l = all_of g.K.Kind.test l.text ≡ all_of g.K.Kind.test (drop l.symbol-index l.text)
