use Rattle.xs_parse_table.proofs.Readying.{term_said, skip_said}
use Rattle.xs_parse_table.proofs.item.item_end.Goals as goal

pub is_of-right-requires : goal.is_of-right-requires
is_of-right-requires c =
    let there = rw c.in-Term.is at c.requires.there in
    record { moves = rw c.term.ensures (term_said c.args.g.now c.args.validator.now c.args.doc.now c.args.atoms.now c.in-Term.term c.start_of-start.result c.requires.ready there (rw c.deref.ensures.value at c.start_of-start.ensures)) }

pub is_of-right-requires-in-Skip : goal.is_of-right-requires-in-Skip
is_of-right-requires-in-Skip c =
    let there = rw c.in-Skip.is at c.requires.there in
    record { moves = rw c.skip.ensures (skip_said c.args.g.now c.args.validator.now c.args.doc.now c.args.atoms.now c.in-Skip.skip c.start_of-start-in-Skip.result c.requires.ready there (rw c.deref-in-Skip.ensures.value at c.start_of-start-in-Skip.ensures)) }
