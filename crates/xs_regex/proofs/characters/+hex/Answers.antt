use Rattle.std.proofs.Common.{arith}
use Rattle.xs_regex.proofs.Names.{room_small}
use Rattle.xs_regex.proofs.characters.+hex.Goals as goal

pub overflow_mul-value : goal.overflow_mul-value
overflow_mul-value t c = omega (arith, room_small c.args.count c.if-count-lt6.true, c.requires.room)

pub overflow_add-value : goal.overflow_add-value
overflow_add-value t c = omega (arith, room_small c.args.count c.if-count-lt6.true, c.requires.room, c.in-Some.ensures.small)
