use Rattle.xs_regex.proofs.Places.{size_is, members_are}
use Rattle.xs_regex.proofs.automaton.positions.Goals as goal

pub returns-clause-size : goal.returns-clause-size
returns-clause-size c = size_is c.args.r.now _ _ c.in_ok-p.p c.in_ok-p.ensures.automaton

pub returns-clause-members : goal.returns-clause-members
returns-clause-members c = members_are c.args.r.now _ _ c.in_ok-p.p c.in_ok-p.ensures.automaton
