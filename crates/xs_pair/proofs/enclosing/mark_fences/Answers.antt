use Rattle.xs_pair.proofs.MarkPairs.{pairs_more}
use Rattle.xs_pair.proofs.enclosing.mark_fences.Goals as goal

pub names-preserved : goal.names-preserved
names-preserved c = pairs_more c.names.name c.names.fences.items _ c.opening.result c.closing.result c.names.invariant c.in_ok-push.ensures.items c.opening.ensures c.closing.ensures
