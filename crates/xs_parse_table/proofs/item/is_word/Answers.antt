use Rattle.std.proofs.Common.{refl}
use Rattle.xs_parse_table.proofs.item.is_word.Goals as goal

pub returns : goal.returns
returns c = λ t.
    record { end = refl; span = record { risen = c.if-to-at.false; within = c.if-doc-to.false; word = refl }; word = c.are_same.ensures t }
