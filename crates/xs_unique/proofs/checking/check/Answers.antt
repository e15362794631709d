use Rattle.xs_unique.proofs.checking.check.Goals as goal

pub returns-clause-unique_text : goal.returns-clause-unique_text
returns-clause-unique_text c = (c.accepted_is_unique.ensures c.args.text.now c.args.xml.now c.requires.text c.requires.xml (record { light_text = c.in_ok-light.ensures.light; light_xml = c.in_ok-light-2.ensures.light; clear_text = c.in_ok-clear.ensures.clear; clear_xml = c.in_ok-clear-2.ensures.clear })).0

pub returns-clause-unique_xml : goal.returns-clause-unique_xml
returns-clause-unique_xml c = (c.accepted_is_unique.ensures c.args.text.now c.args.xml.now c.requires.text c.requires.xml (record { light_text = c.in_ok-light.ensures.light; light_xml = c.in_ok-light-2.ensures.light; clear_text = c.in_ok-clear.ensures.clear; clear_xml = c.in_ok-clear-2.ensures.clear })).1
