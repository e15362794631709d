use Rattle.std.proofs.Common.{arith}
use Rattle.xs_cert_lines.proofs.Paging.{ten_digits}
use Rattle.xs_cert_lines.proofs.page.put_number.Goals as goal

pub put_three-requires-clause-room : goal.put_three-requires-clause-room
put_three-requires-clause-room c = omega (arith, ten_digits c.args.number c.ranges.number.fits, c.requires)

pub put_long-requires : goal.put_long-requires
put_long-requires c = omega (arith, ten_digits c.args.number c.ranges.number.fits, c.requires)

pub returns-then-number-lt1000-clause-short : goal.returns-then-number-lt1000-clause-short
returns-then-number-lt1000-clause-short c = omega (arith, ten_digits c.args.number c.ranges.number.fits, c.put_three.ensures.is)

pub returns-else-number-lt1000-clause-short : goal.returns-else-number-lt1000-clause-short
returns-else-number-lt1000-clause-short c = omega (arith, ten_digits c.args.number c.ranges.number.fits, c.put_long.ensures.is)
