use Rattle.std.proofs.Common.{inr, arith}
use Rattle.xs_cover.specs.declared.pick.Pick.TheVariants.{Front}
use Rattle.xs_cover.proofs.Growing.{found_row}
use Rattle.xs_cover.proofs.picks.front_row.Goals as goal

pub returns : goal.returns
returns c = inr (omega arith, found_row c.args.forest.now (Front c.args.rule c.args.dot) c.find.result (c.requires (omega arith)) c.find.ensures.found)
