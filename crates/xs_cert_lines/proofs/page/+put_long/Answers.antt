use Rattle.std.proofs.Common.{◌^◌, ◌<◌, ◌≤◌, arith}
use Rattle.xs_cert_lines.proofs.Paging.{more_digits, more_put}
use Rattle.xs_cert_lines.proofs.page.+put_long.Goals as goal

pub put_long-last-requires : goal.put_long-last-requires
put_long-last-requires t c =
    let high : 10 ≤ c.args.number = omega (arith, c.if-number-lt1000.false) in
    let small : c.args.number < 2 ^ 64 = omega arith in
    (omega (arith, c.decreases, high), omega (arith, more_digits c.args.number high small, c.requires))

pub put-requires : goal.put-requires
put-requires t c =
    let high : 10 ≤ c.args.number = omega (arith, c.if-number-lt1000.false) in
    let small : c.args.number < 2 ^ 64 = omega arith in
    omega (arith, more_digits c.args.number high small, c.requires, c.put_long-last.ensures.is, c.put_long-last.ensures.size)

pub returns : goal.returns
returns t c =
    let high : 10 ≤ c.args.number = omega (arith, c.if-number-lt1000.false) in
    let small : c.args.number < 2 ^ 64 = omega arith in
    more_put c.args.page.now c.put_long-last.new.page c.put.new.page c.args.at c.put_long-last.result c.put.result c.args.number high small c.put_long-last.ensures c.put.ensures
