use Rattle.std.proofs.Common.{◌≡◌, drop}
use Rattle.xs_lex.specs.Classes.{is_plain_char}
use Rattle.xs_lex.specs.Scan.{run_end}
use Rattle.xs_lex.proofs.names.run.Given as goal

abbrev pub invariant-run : goal.invariant-run
invariant-run l = run_end is_plain_char 0 l.text ≡ run_end is_plain_char l.n (drop l.n l.text)
