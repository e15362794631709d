use Rattle.std.proofs.Common.{sym, arith}
use Rattle.xs_outline.proofs.Parsing.{no_entry_none, no_entry_zero, production_spelt}
use Rattle.xs_outline.proofs.line.read_entry.Goals as goal

pub returns-then-number-eq0 : goal.returns-then-number-eq0
returns-then-number-eq0 c = no_entry_zero c.args.text.now c.in-Some.number (sym c.in-Some.ensures) c.if-number-eq0.true

pub returns-else-number-eq0 : goal.returns-else-number-eq0
returns-else-number-eq0 c = production_spelt c.args.text.now c.in-Some.number _ (sym c.in-Some.ensures) (omega (arith, c.if-number-eq0.false))

pub returns-in-None-2 : goal.returns-in-None-2
returns-in-None-2 c = no_entry_none c.args.text.now (rw c.in-None-2.is at c.in_ok-word-in-None.ensures) (sym c.in-None.ensures)
