use Rattle.std.proofs.Common.{refl, ap, ◌∙◌}
use Rattle.xs_xml_laws.proofs.TableLaws.{name_start_is}
use Rattle.xs_form.proofs.NameLaws.{small_start}
use Rattle.xs_form.proofs.runs.begins_name.Goals as goal
use Rattle.xs_class.specs.Tables.{is_name_start}

pub returns-then-small : goal.returns-then-small
returns-then-small c = c.if-small.true ∙ small_start c.number-number.result (c.if-small.ensures refl).0 (c.if-small.ensures refl).1 ∙ ap is_name_start c.number-number.ensures

pub returns-else-small : goal.returns-else-small
returns-else-small c = name_start_is c.is_name_start.result c.number-number.result c.is_name_start.ensures ∙ ap is_name_start c.number-number.ensures
