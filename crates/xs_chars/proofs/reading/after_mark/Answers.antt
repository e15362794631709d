use Rattle.xs_chars.proofs.Characters.{begins_marked, begins_unmarked}
use Rattle.xs_chars.proofs.reading.after_mark.Goals as goal

pub returns-in-Some : goal.returns-in-Some
returns-in-Some c = begins_marked c.args.text.now _ c.utf8.text c.in-Some.ensures.cases

pub returns-in-None : goal.returns-in-None
returns-in-None c = begins_unmarked c.args.text.now c.utf8.text c.in-None.ensures.cases
