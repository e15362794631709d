use Rattle.std.proofs.Common.{◌≡◌, false, drop}
use Rattle.xs_lex.specs.Scan.{blank_end}
use Rattle.xs_lex.proofs.blanks.blanks.Given as goal

abbrev pub invariant-blanks : goal.invariant-blanks
invariant-blanks l = blank_end false 0 l.text ≡ blank_end l.inside l.n (drop l.n l.text)
