use Rattle.std.proofs.Common.{◌≡◌, ◌<◌, drop}
use Rattle.xs_outline.specs.Reading.{digits_at}
use Rattle.xs_outline.proofs.quoted.digits.Given as goal

abbrev pub invariant-digits : goal.invariant-digits
invariant-digits l = record {
  low : l.number < 0x110000;
  same : digits_at 0 0 l.text ≡ digits_at l.count l.number (drop l.count l.text);
}
