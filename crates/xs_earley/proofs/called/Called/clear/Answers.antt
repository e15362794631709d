use Rattle.std.proofs.Common.{ℕ, List, ◌+◌, ◌<◌, get_or, sym, subst, arith}
use Rattle.std.specs.Prelude.{vec_len}
use Rattle.xs_earley.specs.declared.called.Called.TheInside.{Inside}
use Rattle.xs_earley.proofs.Marks.{none_marked, zeros_below}
use Rattle.xs_earley.proofs.called.Called.clear.Goals.{then-self, else-self}
use Rattle.xs_earley.proofs.called.Called.clear.Goals as goal

pub returns-clause-unmarked : goal.returns-clause-unmarked
returns-clause-unmarked c = none_marked (c.if-self.self-inside.last + 1) c.if-self.self-inside.marks.items (λ k. elim c.if-self.branch [
  | then-self w ↦
      let zeros = w.fill.ensures.items (λ y e. e) in
      subst (λ (s : Inside). get_or s.marks.items k 0 < s.last + 1) (sym w.self-inside-is) (subst (λ (l : List ℕ). get_or l k 0 < 0 + 1) (sym zeros) (zeros_below (vec_len c.self.inside.marks) k 0))
  | else-self w ↦
      subst (λ (s : Inside). get_or s.marks.items k 0 < s.last + 1) (sym w.self-inside-is) (let le = c.self.invariant k in omega (arith, le))
])
