use Rattle.std.proofs.Common.{◌∙◌, arith}
use Rattle.xs_auto.proofs.LayoutLemmas.{laid_states, laid_calls, laid_sound}
use Rattle.xs_auto.proofs.net.Net.calls.Goals as goal

pub list-requires : goal.list-requires
list-requires c = let same = laid_states c.self.inside.start c.self.inside.finals.items c.self.inside.classes.items c.self.inside.edges c.self.inside.moves c.self.inside.calls c.args.self.now c.self.view_is in omega (arith, same, c.self.invariant.calls, c.requires)

pub returns-clause-value : goal.returns-clause-value
returns-clause-value c = c.list.ensures ∙ laid_calls c.self.inside.start c.self.inside.finals.items c.self.inside.classes.items c.self.inside.edges c.self.inside.moves c.self.inside.calls c.args.self.now c.args.a c.self.invariant c.self.view_is

pub returns-clause-exist : goal.returns-clause-exist
returns-clause-exist c = rw (c.list.ensures ∙ laid_calls c.self.inside.start c.self.inside.finals.items c.self.inside.classes.items c.self.inside.edges c.self.inside.moves c.self.inside.calls c.args.self.now c.args.a c.self.invariant c.self.view_is) ((laid_sound c.self.inside.start c.self.inside.finals.items c.self.inside.classes.items c.self.inside.edges c.self.inside.moves c.self.inside.calls c.args.self.now c.self.invariant c.self.view_is).calls c.args.a)
