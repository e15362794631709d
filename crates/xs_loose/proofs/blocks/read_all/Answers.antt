use Rattle.std.proofs.Common.{get_or, refl}
use Rattle.std.proofs.lemmas.List.{take_all}
use Rattle.std.proofs.lemmas.List.Elements.{Contains-get_or}
use Rattle.xs_loose.proofs.Growing.{grows_none}
use Rattle.xs_loose.proofs.Pushing.{into_more, class_read}
use Rattle.xs_loose.proofs.blocks.read_all.Goals as goal

pub targets-init : goal.targets-init
targets-init c = grows_none c.args.net.now

pub at-class-requires : goal.at-class-requires
at-class-requires c = c.requires.targets (get_or c.args.targets.now c.targets.target-index 0) (Contains-get_or c.args.targets.now c.targets.target-index 0 c.targets-test.true)

pub targets-preserved : goal.targets-preserved
targets-preserved c = into_more c.args.automaton.now c.args.first c.args.from c.args.targets.now c.targets.target-index (get_or c.args.targets.now c.targets.target-index 0) c.at-class.result.now c.args.net.now c.targets.net _ c.targets-test.true refl (class_read c.args.automaton.now (get_or c.args.targets.now c.targets.target-index 0) c.at-class.result.now c.at-class.ensures) c.targets.invariant c.in_ok-read.ensures

pub returns : goal.returns
returns c = rw (take_all c.targets.target-index c.args.targets.now c.targets-test.false) at c.targets.invariant
