use Rattle.xs_table_out.proofs.Marks.{begins_marked}
use Rattle.xs_table_out.proofs.text.begins_with_mark.Goals as goal

pub returns : goal.returns
returns c = λ word is. begins_marked c.args.bytes.now word c.starts_with.result c.starts_with.ensures.value is
