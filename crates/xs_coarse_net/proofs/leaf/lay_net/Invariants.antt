use Rattle.std.proofs.Common.{take}
use Rattle.std.specs.List.{Contains}
use Rattle.xs_coarse.specs.declared.arc.Arc.{Arc}
use Rattle.xs_coarse.specs.Coarse.{HasArc}
use Rattle.xs_coarse_net.specs.Going.{Grows}
use Rattle.xs_coarse_net.specs.Placing.{inner_state}
use Rattle.xs_coarse_net.proofs.leaf.lay_net.Given as goal

abbrev pub invariant-arcs : goal.invariant-arcs
invariant-arcs l = record {
  grows : Grows l.initial.draft l.draft;
  arcs : (x : Arc) → Contains (take l.x-index l.net.arcs) x → HasArc l.draft (inner_state l.last l.base l.from l.to x.from) x.label (inner_state l.last l.base l.from l.to x.to);
}
