use Rattle.std.proofs.Common.{◌≡◌, ◌++◌, drop, true, encode_utf8_all}
use Rattle.std.specs.String.{string_bytes}
use Rattle.xs_xml_laws.specs.Tables.{is_name_char}
use Rattle.xs_xml_laws.specs.Piece.{all_of}
use Rattle.xs_form.proofs.marks.spelled.Given as goal

abbrev pub invariant-symbols : goal.invariant-symbols
invariant-symbols l = record {
  so_far : encode_utf8_all l.name ≡ string_bytes l.text ++ encode_utf8_all (drop l.symbol-index l.name);
  names : all_of is_name_char (drop l.symbol-index l.name) ≡ true;
}
