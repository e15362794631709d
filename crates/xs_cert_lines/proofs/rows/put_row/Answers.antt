use Rattle.std.proofs.Common.{◌++◌, take, refl, arith}
use Rattle.xs_cert_lines.proofs.Fronts.{on_err, front_none}
use Rattle.xs_cert_lines.proofs.Writing.{no_row, one_row, row_front}
use Rattle.xs_cert_lines.proofs.rows.put_row.Goals as goal

pub returns-in_default-clause-text : goal.returns-in_default-clause-text
returns-in_default-clause-text c = record { text = no_row (c.args.out.now ++ take c.args.start c.args.page.now) c.args.set.now c.args.state c.in_default.ensures.none; order = omega arith; size = refl }

pub returns-in_err-begin-clause-err : goal.returns-in_err-begin-clause-err
returns-in_err-begin-clause-err c = on_err _ (front_none _ _ _ c.in_err-begin.ensures.err)

pub returns-in_err-listed-clause-err : goal.returns-in_err-listed-clause-err
returns-in_err-listed-clause-err c =
    on_err _ (row_front c.args.out.now c.with_room.new.out c.put_partners.new.out c.args.page.now c.put_number-numbered.new.page c.args.start c.in_ok-begin.begin c.put_number-numbered.result c.args.set.now c.args.state c.in-Some.field-0
    c.in-Some.ensures.some c.in_ok-begin.ensures.ok c.put_number-numbered.ensures.text c.in_err-listed.ensures.err)

pub returns-clause-text : goal.returns-clause-text
returns-clause-text c =
    one_row c.args.out.now c.with_room.new.out c.put_number-numbered.new.page c.put_partners.new.out c.put_partners.new.page c.put.new.page c.args.start c.in_ok-begin.begin c.put_number-numbered.result c.in_ok-listed.listed c.put.result c.args.page.now c.args.set.now c.args.state c.in-Some.field-0
    c.in-Some.ensures.some c.in_ok-begin.ensures.ok c.put_number-numbered.ensures.text c.in_ok-listed.ensures.text c.put.ensures
