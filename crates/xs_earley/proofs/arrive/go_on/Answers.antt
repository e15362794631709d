use Rattle.std.proofs.Common.{ℕ, List, get_or, subst, arith}
use Rattle.std.specs.Prelude.{Contains}
use Rattle.std.proofs.lemmas.List.Elements.{Contains-get_or}
use Rattle.xs_earley.proofs.arrive.go_on.Goals as goal

pub enter-requires-clause-room : goal.enter-requires-clause-room
enter-requires-clause-room c =
    let list = c.next_positions-positions.result.now in
    let n = c.positions.position-index in
    c.requires.room (get_or list n 0) (subst (λ (l : List ℕ). Contains l (get_or list n 0)) c.next_positions-positions.ensures (Contains-get_or list n 0 (omega arith)))

pub enter-requires-clause-told : goal.enter-requires-clause-told
enter-requires-clause-told c =
    let list = c.next_positions-positions.result.now in
    let n = c.positions.position-index in
    c.requires.told (get_or list n 0) (subst (λ (l : List ℕ). Contains l (get_or list n 0)) c.next_positions-positions.ensures (Contains-get_or list n 0 (omega arith)))
