use Rattle.std.proofs.Common.{refl, ap, ◌∙◌}
use Rattle.xs_xml_laws.specs.Tables.{is_name_char}
use Rattle.xs_xml_laws.proofs.TableLaws.{name_char_is}
use Rattle.xs_form.proofs.NameLaws.{small_letter}
use Rattle.xs_form.proofs.runs.in_name.Goals as goal

pub returns-then-small : goal.returns-then-small
returns-then-small c = c.if-small.true ∙ small_letter c.number-number.result (c.if-small.ensures refl).0 (c.if-small.ensures refl).1 ∙ ap is_name_char c.number-number.ensures

pub returns-else-small : goal.returns-else-small
returns-else-small c = name_char_is c.is_name_char.result c.number-number.result c.is_name_char.ensures ∙ ap is_name_char c.number-number.ensures
