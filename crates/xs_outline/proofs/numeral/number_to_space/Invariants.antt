use Rattle.std.proofs.Common.{◌≡◌, length}
use Rattle.xs_outline.specs.Reading.{spaced_after}
use Rattle.xs_outline.proofs.numeral.number_to_space.Given as goal

abbrev pub invariant-digits : goal.invariant-digits
invariant-digits l = spaced_after 0 l.text ≡ spaced_after l.number l.rest

abbrev pub decreases-digits : goal.decreases-digits
decreases-digits l = length l.rest
