use Rattle.std.proofs.Common.{subst}
use Rattle.xs_class.specs.declared.side.Side.{Side}
use Rattle.xs_c.specs.declared.working.Work.TheVariants as W
use Rattle.xs_c.specs.Works.{IsDone}
use Rattle.xs_c.proofs.documents.xsugar_from_tree.Goals as goal

pub returns-clause-done : goal.returns-clause-done
returns-clause-done c = subst (λ (side : Side). IsDone c.args.sheet.now.held.kept (W.Make side) c.args.outline.now c.args.answer.now c.done.new.answer c.done.result) c.side.ensures c.done.ensures.done
