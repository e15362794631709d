use Rattle.std.proofs.Common.{arith}
use Rattle.xs_loose.proofs.Growing.{grows_then}
use Rattle.xs_loose.proofs.blocks.lay_automaton.Goals as goal

pub read_all-requires-clause-targets : goal.read_all-requires-clause-targets
read_all-requires-clause-targets c = λ k h. c.requires.formed.first_in k (rw c.as_slice.ensures at h)

pub pass_all-requires-clause-lasts : goal.pass_all-requires-clause-lasts
pass_all-requires-clause-lasts c = λ k h.
    let low = c.requires.formed.last_in k (rw c.as_slice-2.ensures at h) in
    omega (arith, low, c.requires.room, c.in_ok-read_all.ensures.states, c.in_ok-read_follows.ensures.states)

pub returns-clause-grows : goal.returns-clause-grows
returns-clause-grows c =
    let into = rw c.as_slice.ensures at c.in_ok-read_all.ensures in
    let out = rw (c.as_slice-2.ensures, c.len.ensures) at c.in_ok-pass_all.ensures in
    let past = rw c.len.ensures at c.in_ok-pass_if.ensures in
    grows_then into (grows_then c.in_ok-read_follows.ensures (grows_then out past))
