use Rattle.std.proofs.Common.{◌∙◌, sym}
use Rattle.xs_meet.specs.Traces.{IsRoot}
use Rattle.xs_meet.proofs.PhaseLemmas.{for_kept, only_seeds, root_seed}
use Rattle.xs_meet.proofs.meet.rooted.Goals as goal

pub returns-clause-nets : goal.returns-clause-nets
returns-clause-nets c = for_kept c.args.first.now c.args.second.now c.new-layer.result c.visit.new.self c.new-layer.ensures.nets c.in_ok-visit.ensures.ok.area

pub returns-clause-only : goal.returns-clause-only
returns-clause-only c =
    let m = c.args.first.now in
    let n = c.args.second.now in
    only_seeds (IsRoot m n) c.new-layer.result c.visit.new.self c.new-layer.ensures.steps (root_seed m n c.unwrap.result c.unwrap-2.result (sym c.start.ensures.value ∙ c.unwrap.ensures) (sym c.start-2.ensures.value ∙ c.unwrap-2.ensures) c.in_ok-visit.ensures.ok)
