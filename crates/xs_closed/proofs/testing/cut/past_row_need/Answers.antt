use Rattle.std.proofs.Common.{sym}
use Rattle.xs_closed.proofs.CutLemmas.{past_row, past_no_row}
use Rattle.xs_closed.proofs.testing.cut.past_row_need.Goals as goal

pub returns-then-is_final : goal.returns-then-is_final
returns-then-is_final c = past_row c.args.set.now c.args.into.now c.args.front.now c.args.a c.args.s c.args.need c.first_need.result (sym c.if-is_final.ensures) c.first_need.ensures

pub returns-else-is_final : goal.returns-else-is_final
returns-else-is_final c = past_no_row c.args.set.now c.args.into.now c.args.front.now c.args.a c.args.s c.args.need (sym c.if-is_final.ensures)
