use Rattle.xs_earley.proofs.Steadiness.{at_rest_read}
use Rattle.xs_earley.proofs.run.Run.next.Goals as goal

pub following-requires-clause-run : goal.following-requires-clause-run
following-requires-clause-run c = at_rest_read c.args.g.now _ _ c.self.view_is c.requires.run c.deref.result.now c.deref.ensures.value
