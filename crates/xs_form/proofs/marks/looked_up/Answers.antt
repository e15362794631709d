use Rattle.xs_class.specs.Ordered.{place_of}
use Rattle.xs_xml_laws.proofs.Reading.{name_chars}
use Rattle.xs_form.proofs.NameLaws.{known_back}
use Rattle.xs_form.proofs.marks.looked_up.Goals as goal

pub spelled-requires : goal.spelled-requires
spelled-requires c = name_chars c.args.name.now c.requires

pub returns-clause-value : goal.returns-clause-value
returns-clause-value c = known_back (place_of c.args.names.now) _ _ _ c.args.name.now c.place_of_text.ensures.value c.as_str.ensures.value c.in_ok-text.ensures c.requires
