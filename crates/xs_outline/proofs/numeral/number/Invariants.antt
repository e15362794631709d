use Rattle.std.proofs.Common.{◌≡◌, drop}
use Rattle.xs_outline.specs.Reading.{number_after}
use Rattle.xs_outline.proofs.numeral.number.Given as goal

abbrev pub invariant-digits : goal.invariant-digits
invariant-digits l = number_after 0 l.text ≡ number_after l.number (drop l.symbol-index l.text)
