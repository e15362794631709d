use Rattle.std.proofs.Common.{sym}
use Rattle.xs_script.proofs.Requests.{no_number_none, no_number_great, number_found}
use Rattle.xs_script.proofs.request.number.Goals as goal

pub returns-then-number-gt-LIMIT : goal.returns-then-number-gt-LIMIT
returns-then-number-gt-LIMIT c = no_number_great c.args.text.now c.in-Some.number (sym c.in-Some.ensures) c.if-number-gt-LIMIT.true

pub returns-else-number-gt-LIMIT : goal.returns-else-number-gt-LIMIT
returns-else-number-gt-LIMIT c = number_found c.args.text.now c.in-Some.number (sym c.in-Some.ensures) c.if-number-gt-LIMIT.false

pub returns-in-None : goal.returns-in-None
returns-in-None c = no_number_none c.args.text.now (sym c.in-None.ensures)
