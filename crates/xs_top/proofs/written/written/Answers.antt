use Rattle.std.proofs.Common.{inl, refl}
use Rattle.xs_talk.specs.declared.outcome.Outcome.TheVariants.{Done}
use Rattle.xs_top.proofs.Going.{appends_nothing}
use Rattle.xs_top.proofs.written.written.Goals as goal

pub returns-in-Ok : goal.returns-in-Ok
returns-in-Ok g c = (Done, c.in-Ok.ensures.all, inl (refl, appends_nothing (g.N.Sink.taken c.args.notes.now)))
