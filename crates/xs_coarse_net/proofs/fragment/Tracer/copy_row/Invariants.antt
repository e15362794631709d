use Rattle.std.proofs.Common.{◌+◌, take}
use Rattle.std.specs.List.{Contains}
use Rattle.xs_coarse.specs.declared.arc.Arc.{Arc}
use Rattle.xs_coarse_net.specs.Fragments.{Reaches, IsCopied}
use Rattle.xs_coarse_net.specs.Reaching.{left_arc}
use Rattle.xs_coarse_net.proofs.fragment.Tracer.copy_row.Given as goal

abbrev pub invariant-arcs : goal.invariant-arcs
invariant-arcs l = record {
  reaches : Reaches l.initial.self l.self;
  copied : (x : Arc) → Contains (take l.x-index l.row) x → (y : Arc) → Contains (left_arc l.has x) y → IsCopied l.self (l.place + 1) y;
}
