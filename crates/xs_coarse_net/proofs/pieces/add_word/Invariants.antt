use Rattle.std.proofs.Common.{take}
use Rattle.xs_coarse_net.specs.Going.{Goes}
use Rattle.xs_coarse_net.specs.Placing.{Placed}
use Rattle.xs_coarse_net.specs.Stretches.{last_state}
use Rattle.xs_coarse_net.proofs.pieces.add_word.Given as goal

abbrev pub invariant-symbols : goal.invariant-symbols
invariant-symbols l = record {
  placed : Placed l.initial.net l.net (λ x. x);
  goes : Goes l.site.labels.now l.net (last_state l.initial.net) (take l.symbol-index l.word) (last_state l.net);
}
