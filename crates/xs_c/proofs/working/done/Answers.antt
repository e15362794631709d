use Rattle.std.proofs.Common.{subst}
use Rattle.xs_pair.specs.Grammars.{Pair}
use Rattle.xs_c.specs.Works.{IsWorked, by_kept}
use Rattle.xs_c.proofs.Statuses.{worked_status}
use Rattle.xs_c.proofs.working.done.Goals as goal

pub returns-clause-done : goal.returns-clause-done
returns-clause-done c = by_kept c.in-Some.kept.value c.in-Some.ensures.kept
    (subst (λ (p : Pair). IsWorked p c.args.work c.args.document.now c.args.answer.now c.worked-status.new.answer c.worked-status.result) c.deref.ensures c.worked-status.ensures)

pub returns-clause-accepted : goal.returns-clause-accepted
returns-clause-accepted c = worked_status c.deref.result.now c.args.work c.args.document.now c.args.answer.now c.worked-status.new.answer c.worked-status.result c.worked-status.ensures
