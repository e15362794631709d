use Rattle.std.proofs.Common.{get_or, arith}
use Rattle.std.proofs.lemmas.List.Elements.{Contains-get_or}
use Rattle.xs_earley.specs.declared.begun.Begun.{Begun}
use Rattle.xs_earley.proofs.arrive.read_all.Goals as goal

pub read_on-requires-clause-state : goal.read_on-requires-clause-state
read_on-requires-clause-state c =
    let d : Begun = record { state = 0; origin = 0; count = 0 } in
    c.requires.states (get_or c.args.begun.now c.begun.one-index d) (Contains-get_or c.args.begun.now c.begun.one-index d (omega arith))

pub read_on-requires-clause-count : goal.read_on-requires-clause-count
read_on-requires-clause-count c =
    let d : Begun = record { state = 0; origin = 0; count = 0 } in
    c.requires.counts (get_or c.args.begun.now c.begun.one-index d) (Contains-get_or c.args.begun.now c.begun.one-index d (omega arith))
