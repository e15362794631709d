use Rattle.std.proofs.Common.{ℕ, List}
use Rattle.xs_meet.specs.Shared.{IsShared, IsSharedOver}
use Rattle.xs_meet.proofs.AloneLemmas.{word_alone, word_over, ok_some, ok_none}
use Rattle.xs_meet.proofs.meet.meet_word.Goals as goal

pub returns-clause-some : goal.returns-clause-some
returns-clause-some c = ok_some (IsSharedOver c.in_ok-nest.nest c.args.a.now c.args.b.now) (IsShared c.args.a.now c.args.b.now) c.meet_nested.result (λ w s. word_alone c.in_ok-nest.nest c.args.a.now c.args.b.now w c.in_ok-nest.ensures s) c.meet_nested.ensures.some

pub returns-clause-none : goal.returns-clause-none
returns-clause-none c = ok_none ((w : List ℕ) → IsSharedOver c.in_ok-nest.nest c.args.a.now c.args.b.now w → ⊥) ((w : List ℕ) → IsShared c.args.a.now c.args.b.now w → ⊥) c.meet_nested.result (λ none w s. none w (word_over c.in_ok-nest.nest c.args.a.now c.args.b.now w s)) c.meet_nested.ensures.none
