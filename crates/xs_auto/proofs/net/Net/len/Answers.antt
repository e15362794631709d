use Rattle.std.proofs.Common.{arith}
use Rattle.xs_auto.proofs.LayoutLemmas.{laid_few, laid_states}
use Rattle.xs_auto.proofs.net.Net.len.Goals as goal

pub overflow_cast-result : goal.overflow_cast-result
overflow_cast-result c = let few = laid_few c.self.inside.start c.self.inside.finals.items c.self.inside.classes.items c.self.inside.edges c.self.inside.moves c.self.inside.calls c.self.invariant in omega (arith, few, c.len.ensures)

pub returns : goal.returns
returns c = let same = laid_states c.self.inside.start c.self.inside.finals.items c.self.inside.classes.items c.self.inside.edges c.self.inside.moves c.self.inside.calls c.args.self.now c.self.view_is in omega (arith, same, c.len.ensures)
