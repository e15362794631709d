use Rattle.std.proofs.Common.{string_bytes}
use Rattle.xs_table_out.proofs.Spellings.{spelt_made}
use Rattle.xs_table_out.proofs.xml.spell.Goals as goal

pub returns-clause-spelt : goal.returns-clause-spelt
returns-clause-spelt c =
    spelt_made c.args.tags.now c.args.word.now (string_bytes c.cell_of.new.text) (string_bytes c.cell_of-2.new.text) (string_bytes c.cell_of-3.new.text) c.in_ok-content.content c.in_ok-tag.tag c.in_ok-value.value
    c.in_ok-tag.ensures.on c.in_ok-value.ensures.on c.in_ok-content.ensures.cell c.in_ok-tag.ensures.cell c.in_ok-value.ensures.cell
