use Rattle.xs_listing.proofs.Spelling.{left_there}
use Rattle.xs_listing.proofs.list.room_of.Goals as goal

pub size_of-requires-clause-child : goal.size_of-requires-clause-child
size_of-requires-clause-child c =
    let chosen = c.root_choice-chosen in
    left_there c.args.source.now c.requires.source c.args.root c.requires.root c.args.number chosen.ensures.0 chosen.result chosen.ensures.1
