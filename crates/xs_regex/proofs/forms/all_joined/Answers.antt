use Rattle.std.proofs.Common.{refl, arith}
use Rattle.xs_regex.specs.Meaning.{tree_of}
use Rattle.xs_regex.proofs.Fronts.{join_more, join_end}
use Rattle.xs_regex.proofs.forms.all_joined.Goals as goal

pub parts-init : goal.parts-init
parts-init c = λ ts t h k. (ts, t, h, k, refl)

pub parts-preserved : goal.parts-preserved
parts-preserved c = join_more (tree_of c.args.join) c.args.front.items c.parts.left.items c.pop.new.self.items c.args.last c.in-Some.part c.parts.whole c.in_ok-whole.whole c.in-Some.ensures.items c.in_ok-whole.ensures c.parts.invariant

pub returns : goal.returns
returns c = join_end (tree_of c.args.join) c.args.front.items c.parts.left.items c.args.last c.parts.whole (omega (arith, c.in_default.ensures.cases.0, c.parts.left.ok.0)) c.parts.invariant
