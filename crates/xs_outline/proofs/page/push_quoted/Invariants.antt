use Rattle.std.proofs.Common.{◌≡◌, ◌++◌, drop}
use Rattle.xs_outline.proofs.Pages.{rest_of}
use Rattle.xs_outline.proofs.page.push_quoted.Given as goal

abbrev pub invariant-symbols : goal.invariant-symbols
invariant-symbols l = l.page ++ rest_of (drop l.symbol-index l.word) ≡ l.initial.page ++ rest_of l.word
