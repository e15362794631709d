use Rattle.xs_meet.specs.Sharing.{IsSharedOf}
use Rattle.xs_meet.proofs.SharingLemmas.{all_settled, exactly}
use Rattle.xs_meet.proofs.rounds.shared.Goals as goal

pub returns-clause-ok : goal.returns-clause-ok
returns-clause-ok c = all_settled c.args.nest.now c.rounds.shared c.try_all.new.self (rw c.if-branch.false at c.in_ok-try_all.ensures.ok)

pub returns-clause-exact : goal.returns-clause-exact
returns-clause-exact c =
    let all : IsSharedOf c.args.nest.now c.try_all.new.self = all_settled c.args.nest.now c.rounds.shared c.try_all.new.self (rw c.if-branch.false at c.in_ok-try_all.ensures.ok) in
    exactly c.args.nest.now c.try_all.new.self c.requires.fenced all
