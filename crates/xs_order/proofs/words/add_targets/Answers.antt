use Rattle.std.proofs.Common.{get_or, refl}
use Rattle.std.proofs.lemmas.List.Elements.{Contains-get_or}
use Rattle.xs_order.proofs.Steps.{added_more}
use Rattle.xs_order.proofs.words.add_targets.Goals as goal

pub add_step-requires : goal.add_step-requires
add_step-requires c = c.requires _ (Contains-get_or c.args.targets.now c.targets.target-index 0 c.targets-test.true)

pub targets-preserved : goal.targets-preserved
targets-preserved c = added_more c.args.automaton.now c.args.from c.args.targets.now c.targets.target-index (get_or c.args.targets.now c.targets.target-index 0) c.args.clauses.now.items c.targets.clauses.items c.add_step.new.clauses.items c.targets-test.true refl c.targets.invariant c.in_ok-add_step.ensures
