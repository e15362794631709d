use Rattle.std.proofs.Common.{arith}
use Rattle.xs_cert_lines.proofs.Paging.{one_digit, one_put}
use Rattle.xs_cert_lines.proofs.page.put_one.Goals as goal

pub put-requires : goal.put-requires
put-requires c = omega (arith, one_digit c.args.number c.requires.low, c.requires.room)

pub returns : goal.returns
returns c = one_put c.args.page.now c.put.new.page c.args.at c.put.result c.args.number c.requires.low c.put.ensures
