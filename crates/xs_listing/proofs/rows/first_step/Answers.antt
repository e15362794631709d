use Rattle.std.proofs.Common.{length, arith}
use Rattle.xs_listing.proofs.Children.{alt_earlier, earlier_more}
use Rattle.xs_listing.proofs.rows.first_step.Goals as goal

pub end_of-start-requires : goal.end_of-start-requires
end_of-start-requires c =
    let e = alt_earlier c.args.forest.now c.args.row 0 c.first_alt-alt.result c.requires.below c.requires.there c.first_alt-alt.ensures in
    earlier_more c.first_alt-alt.result.left c.args.row (length c.args.forest.now) (omega arith) e.0
