use Rattle.std.proofs.Common.{◌≡◌, ◌≤◌, min, drop}
use Rattle.xs_xml_laws.specs.Piece.{all_of, number}
use Rattle.xs_form.specs.Digits.{radix_of, is_digit_of}
use Rattle.xs_form.proofs.references.digits_char.Given as goal

abbrev pub invariant-digits : goal.invariant-digits
invariant-digits l = record {
  low : l.number ≤ 1114112;
  all : all_of (is_digit_of l.base) l.digits ≡ all_of (is_digit_of l.base) (drop l.symbol-index l.digits);
  so_far : min (number (radix_of l.base) 0 l.digits) 1114112 ≡ min (number (radix_of l.base) l.number (drop l.symbol-index l.digits)) 1114112;
}
