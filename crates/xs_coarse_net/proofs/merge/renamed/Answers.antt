use Rattle.std.proofs.Common.{List, sym, subst}
use Rattle.std.specs.List.{Contains}
use Rattle.xs_coarse.specs.declared.arc.Arc.{Arc}
use Rattle.xs_coarse_net.proofs.Renaming.{carried_more}
use Rattle.xs_coarse_net.proofs.merge.renamed.Goals as goal

pub returns : goal.returns
returns c = record {
  within = c.len-states.ensures.within;
  arc = λ x h. carried_more c.args.names.now c.in_ok-all.all.items c.in_ok-made.made.arcs x (λ y there. c.in_ok-made.ensures.kept y (c.in_ok-arcs.ensures y (subst (λ (l : List Arc). Contains l y) (sym c.deref.ensures.value) ((c.in_order-sorted.ensures y).1 there)))) (c.in_ok-all.ensures x h);
}
