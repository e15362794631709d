use Rattle.xs_xml_laws.proofs.TableLaws.{char_is}
use Rattle.xs_form.proofs.runs.allowed.Goals as goal

pub returns : goal.returns
returns c = char_is c.is_char.result c.args.number c.is_char.ensures
