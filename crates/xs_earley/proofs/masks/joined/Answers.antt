use Rattle.xs_earley.proofs.Maskings.{bit_left, bit_right}
use Rattle.xs_earley.proofs.masks.joined.Goals as goal

pub returns-clause-first : goal.returns-clause-first
returns-clause-first c atom h = bit_left c.args.mask c.args.other atom h

pub returns-clause-second : goal.returns-clause-second
returns-clause-second c atom h = bit_right c.args.mask c.args.other atom h
