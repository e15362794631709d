use Rattle.std.proofs.lemmas.Result.{IfOk-weaker}
use Rattle.xs_auto.specs.Nests.{IsFenced}
use Rattle.xs_loose.specs.Nets.{IsNestOf}
use Rattle.xs_loose.proofs.Taming.{nests_are_fenced}
use Rattle.xs_loose.proofs.nest.nest_of.Goals as goal

pub returns-clause-fenced : goal.returns-clause-fenced
returns-clause-fenced c = IfOk-weaker c.nest_by.result (IsNestOf c.args.g.now) IsFenced (nests_are_fenced c.args.g.now c.requires.built) c.nest_by.ensures.nest
