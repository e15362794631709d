use Rattle.std.proofs.Common.{◌+◌, ◌*◌}
use Rattle.xs_regex.proofs.Passed.{nodes, IsPassedOf}
use Rattle.xs_regex.proofs.automaton.+built.Given as goal

abbrev pub decreases-add : goal.decreases-add
decreases-add l = 3 * nodes l.part.now + 1

abbrev pub decreases-any_number : goal.decreases-any_number
decreases-any_number l = 3 * nodes l.a.now + 1

abbrev pub decreases-built : goal.decreases-built
decreases-built l = 3 * nodes l.r.now

abbrev pub decreases-counted : goal.decreases-counted
decreases-counted l = 3 * nodes l.a.now + 1

abbrev pub decreases-joined : goal.decreases-joined
decreases-joined l = 3 * (nodes l.a.now + nodes l.b.now) + 2

abbrev pub invariant-joined-parts : goal.invariant-joined-parts
invariant-joined-parts l = IsPassedOf l.join l.fn.a l.fn.b l.all l.rest

abbrev pub decreases-joined-parts : goal.decreases-joined-parts
decreases-joined-parts l = nodes l.rest
