use Rattle.std.proofs.Common.{◌∙◌, sym, arith}
use Rattle.xs_sheet.proofs.Strings.{control_low}
use Rattle.xs_sheet.proofs.quoting.push_quoted_character.Goals as goal

pub push_number-requires : goal.push_number-requires
push_number-requires c = omega (arith, control_low c.args.c (sym c.is_control.ensures ∙ c.if-is_control.true))
