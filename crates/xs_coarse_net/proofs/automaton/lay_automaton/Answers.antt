use Rattle.std.proofs.Common.{ap, length, ◌∙◌, arith}
use Rattle.xs_coarse_net.proofs.Going.{grows_on}
use Rattle.xs_coarse_net.proofs.automaton.lay_automaton.Goals as goal

pub lay_row-requires-clause-labels : goal.lay_row-requires-clause-labels
lay_row-requires-clause-labels c = λ k h. omega (arith, c.requires.formed.first_in k (rw c.as_slice.ensures at h), c.requires.labels)

pub lay_row-requires-clause-states : goal.lay_row-requires-clause-states
lay_row-requires-clause-states c = λ k h. omega (arith, c.requires.formed.first_in k (rw c.as_slice.ensures at h), c.requires.formed.rows, c.in_ok-made.ensures.long, ap length c.as_slice-states.ensures.value)

pub lay_follows-requires-clause-states : goal.lay_follows-requires-clause-states
lay_follows-requires-clause-states c = ap length c.as_slice-states.ensures.value ∙ c.in_ok-made.ensures.long ∙ c.requires.formed.rows

pub lay_lasts-requires : goal.lay_lasts-requires
lay_lasts-requires c = λ k h. omega (arith, c.requires.formed.last_in k (rw c.as_slice-2.ensures at h), c.requires.formed.rows, c.in_ok-made.ensures.long, ap length c.as_slice-states.ensures.value)

pub returns-clause-grows : goal.returns-clause-grows
returns-clause-grows c = rw c.states_of.ensures.same at (grows_on c.in_ok-lay_row.ensures.grows (grows_on c.in_ok-lay_follows.ensures.grows (grows_on c.in_ok-lay_lasts.ensures.grows c.in_ok-lay_past.ensures.grows)))

pub returns-clause-laid : goal.returns-clause-laid
returns-clause-laid c =
    let row = rw c.as_slice.ensures at c.in_ok-lay_row.ensures.arcs in
    let lasts = rw c.as_slice-2.ensures at c.in_ok-lay_lasts.ensures.arcs in
    let later = grows_on c.in_ok-lay_lasts.ensures.grows c.in_ok-lay_past.ensures.grows in
    let after = grows_on c.in_ok-lay_follows.ensures.grows later in (
      c.as_slice-states.result.now,
      record {
        first = λ k h. after.kept _ (row k h);
        next = λ j k leads. later.kept _ (c.in_ok-lay_follows.ensures.arcs j k leads);
        last = λ k h ne. c.in_ok-lay_past.ensures.grows.kept _ (lasts k h ne);
        past = λ e. c.in_ok-lay_past.ensures.arc e;
      },
    )
