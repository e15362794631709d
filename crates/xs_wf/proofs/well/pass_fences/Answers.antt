use Rattle.std.proofs.Common.{◌≡◌, subst}
use Rattle.std.specs.declared.option.Option.{Option}
use Rattle.xs_pair.specs.declared.ill.Ill.{Ill}
use Rattle.xs_pair.specs.Fences.{IsFenceIll}
use Rattle.xs_wf.proofs.Refusals.{fence_first, none_at_all}
use Rattle.xs_wf.proofs.well.pass_fences.Goals as goal

pub returns-in-None-clause-well : goal.returns-in-None-clause-well
returns-in-None-clause-well c = none_at_all c.args.sheet.now c.requires.before (subst (λ (o : Option Ill). IsFenceIll c.args.sheet.now.units o) c.in-None.is c.in_ok-first.ensures)

pub returns-in-Some-clause-ill : goal.returns-in-Some-clause-ill
returns-in-Some-clause-ill c = fence_first c.args.sheet.now _ c.requires.before (subst (λ (o : Option Ill). IsFenceIll c.args.sheet.now.units o) c.in-Some.is c.in_ok-first.ensures)
