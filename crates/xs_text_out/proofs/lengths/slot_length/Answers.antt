use Rattle.std.proofs.Common.{rules}
use Rattle.xs_text_out.proofs.Counting.{slot_none, slot_counted}
use Rattle.xs_text_out.proofs.lengths.slot_length.Goals as goal

pub returns-in-None : goal.returns-in-None
returns-in-None c g trees are = slot_none g trees c.args.kids.now c.args.slot c.in-None.ensures

pub returns-in-Some : goal.returns-in-Some
returns-in-Some c g trees are = slot_counted g trees c.args.kids.now c.args.lengths.now c.args.slot c.in-Some.kid _ c.in-Some.ensures c.requires (search rules) are
