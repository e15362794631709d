use Rattle.std.proofs.Common.{◌≡◌, ◌≤◌, drop}
use Rattle.xs_words.specs.Number.{number_after}
use Rattle.xs_words.proofs.number.spelled.Given as goal

abbrev pub invariant-digits : goal.invariant-digits
invariant-digits l = (l.number ≤ l.most) × (number_after 0 l.bytes ≡ number_after l.number (drop l.byte-index l.bytes))
