use Rattle.std.proofs.Common.{◌≡◌}
use Rattle.xs_coarse_net.specs.Fragments.{Reaches, AreCopied}
use Rattle.xs_coarse_net.specs.Reaching.{left_net}
use Rattle.xs_coarse_net.proofs.fragment.Tracer.copy_rows.Given as goal

abbrev pub invariant-states : goal.invariant-states
invariant-states l = record {
  reaches : Reaches l.initial.self l.self;
  done : l.done ≡ l.place;
  copied : AreCopied (left_net l.has l.whole) l.self l.done;
}
