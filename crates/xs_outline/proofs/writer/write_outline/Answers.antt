use Rattle.xs_outline.proofs.Pairs.{pair_has_slot_names}
use Rattle.xs_outline.proofs.writer.write_outline.Goals as goal

pub write-requires-clause-names : goal.write-requires-clause-names
write-requires-clause-names c = pair_has_slot_names c.see.ensures.pair.0 c.args.two.now c.see.ensures.pair.1
