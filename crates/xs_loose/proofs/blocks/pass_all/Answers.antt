use Rattle.std.proofs.Common.{get_or, refl, arith}
use Rattle.std.proofs.lemmas.List.{take_all}
use Rattle.std.proofs.lemmas.List.Elements.{Contains-get_or}
use Rattle.xs_loose.proofs.Growing.{grows_none}
use Rattle.xs_loose.proofs.Pushing.{out_more}
use Rattle.xs_loose.proofs.blocks.pass_all.Goals as goal

pub lasts-init : goal.lasts-init
lasts-init c = grows_none c.args.net.now

pub lasts-preserved : goal.lasts-preserved
lasts-preserved c = out_more c.args.first c.args.to c.args.lasts.now c.lasts.last-index (get_or c.args.lasts.now c.lasts.last-index 0) c.args.net.now c.lasts.net _ c.lasts-test.true refl c.lasts.invariant c.in_ok-pass.ensures

pub returns : goal.returns
returns c = rw (take_all c.lasts.last-index c.args.lasts.now c.lasts-test.false) at c.lasts.invariant

pub overflow_add-first : goal.overflow_add-first
overflow_add-first c = omega (arith, c.requires.lasts (get_or c.args.lasts.now c.lasts.last-index 0) (Contains-get_or c.args.lasts.now c.lasts.last-index 0 c.lasts-test.true), c.requires.few)

pub pass-requires-clause-from : goal.pass-requires-clause-from
pass-requires-clause-from c = omega (arith, c.requires.lasts (get_or c.args.lasts.now c.lasts.last-index 0) (Contains-get_or c.args.lasts.now c.lasts.last-index 0 c.lasts-test.true), c.lasts.invariant.states)
