use Rattle.xs_screen.proofs.FixedApart.{begun_share, ended_share}
use Rattle.xs_screen.proofs.apart.are_fixed_apart.Goals as goal

pub returns-then-are_begun_apart : goal.returns-then-are_begun_apart
returns-then-are_begun_apart c = λ e. begun_share c.args.g.now c.args.rule c.args.rule2 (rw (c.spread-one.ensures.items, c.spread-other.ensures.items) at (c.are_begun_apart.ensures c.if-are_begun_apart.true))

pub returns : goal.returns
returns c = λ e. ended_share c.args.g.now c.args.rule c.args.rule2 (rw (c.spread-one.ensures.items, c.spread-other.ensures.items) at (c.are_ended_apart.ensures e))
