use Rattle.std.proofs.Common.{ℕ, List}
use Rattle.xs_meet.specs.Shared.{AreOverlap, AreOverlapOver}
use Rattle.xs_meet.proofs.AloneLemmas.{lap_alone, lap_over, ok_some, ok_none}
use Rattle.xs_meet.proofs.overlap.overlap_word.Goals as goal

pub returns-clause-some : goal.returns-clause-some
returns-clause-some c = ok_some (λ w. AreOverlapOver c.in_ok-nest.nest c.args.a.now c.args.b.now w.x w.a w.y) (λ w. AreOverlap c.args.a.now c.args.b.now w.x w.a w.y) c.overlap_nested.result (λ w s. lap_alone c.in_ok-nest.nest c.args.a.now c.args.b.now w.x w.a w.y c.in_ok-nest.ensures s) c.overlap_nested.ensures.some

pub returns-clause-none : goal.returns-clause-none
returns-clause-none c = ok_none ((x m y : List ℕ) → AreOverlapOver c.in_ok-nest.nest c.args.a.now c.args.b.now x m y → ⊥) ((x m y : List ℕ) → AreOverlap c.args.a.now c.args.b.now x m y → ⊥) c.overlap_nested.result (λ none x m y s. none x m y (lap_over c.in_ok-nest.nest c.args.a.now c.args.b.now x m y s)) c.overlap_nested.ensures.none
