use Rattle.std.proofs.Common.{arith}
use Rattle.xs_listing.proofs.Walking.{item_rule}
use Rattle.xs_listing.proofs.sizes.last_size.Goals as goal

pub items-requires : goal.items-requires
items-requires c =
    let h = c.requires.dotted c.in-Front.rule c.in-Front.dot c.in-Front.is in
    item_rule c.args.g.now c.in-Front.rule 0 (omega (arith, h.0, h.1))
