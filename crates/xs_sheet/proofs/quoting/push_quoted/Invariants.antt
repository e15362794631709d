use Rattle.std.proofs.Common.{◌≡◌, [], ◌++◌, map}
use Rattle.xs_lex.specs.Units.{spelt_quoted}
use Rattle.xs_sheet.specs.Layout.{unit_of}
use Rattle.xs_sheet.proofs.quoting.push_quoted.Given as goal

abbrev pub invariant-characters : goal.invariant-characters
invariant-characters l = l.page ≡ l.initial.page ++ spelt_quoted (map unit_of l.yielded) []
