use Rattle.std.proofs.Common.{◌≡◌, ◌++◌, take, map}
use Rattle.xs_sheet.specs.Outline.{unit_outline}
use Rattle.xs_sheet.specs.Layout.{unit_words, lines_text}
use Rattle.xs_sheet.proofs.writer.push_units.Given as goal

abbrev pub invariant-units : goal.invariant-units
invariant-units l = l.page ≡ l.initial.page ++ lines_text (map (λ u. unit_words (unit_outline u)) (take l.unit-index l.units))
