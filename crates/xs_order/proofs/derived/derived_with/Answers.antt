use Rattle.xs_order.specs.Wanted.{IsWanted}
use Rattle.xs_order.proofs.Deriving.{flags_are_exact}
use Rattle.xs_order.proofs.Good.{are_good}
use Rattle.xs_order.proofs.derived.derived_with.Goals as goal

pub returns : goal.returns
returns c =
    let g = c.args.g.now in
    let leaves = c.in_ok-leaves.leaves in
    flags_are_exact g (IsWanted c.args.wanted) leaves c.in_ok-flags.flags (are_good g c.args.wanted leaves c.requires c.in_ok-leaves.ensures) c.in_ok-flags.ensures
