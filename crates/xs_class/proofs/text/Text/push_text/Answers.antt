use Rattle.xs_class.proofs.text.Text.push_text.Goals as goal

pub returns-clause-ok : goal.returns-clause-ok
returns-clause-ok c = rw (← c.as_str.ensures.read) c.push_str.ensures.ok
