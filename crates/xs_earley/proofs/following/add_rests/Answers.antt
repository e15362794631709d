use Rattle.std.proofs.Common.{get_or, arith}
use Rattle.std.proofs.lemmas.List.Elements.{Contains-get_or}
use Rattle.xs_earley.specs.declared.begun.Begun.{Begun}
use Rattle.xs_earley.proofs.following.add_rests.Goals as goal

pub add_rest-requires-clause-state : goal.add_rest-requires-clause-state
add_rest-requires-clause-state c =
    let d : Begun = record { state = 0; origin = 0; count = 0 } in
    c.requires.states (get_or c.args.begun.now c.begun.one-index d) (Contains-get_or c.args.begun.now c.begun.one-index d (omega arith))
