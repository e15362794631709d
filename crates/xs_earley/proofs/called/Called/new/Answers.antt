use Rattle.std.proofs.Common.{◌+◌, ◌<◌, ℕ, List, get_or, sym, subst}
use Rattle.xs_earley.proofs.Marks.{none_marked, zeros_below}
use Rattle.xs_earley.proofs.called.Called.new.Goals as goal

pub returns-clause-unmarked : goal.returns-clause-unmarked
returns-clause-unmarked c =
    let zeros = c.in_ok-marks.ensures.items_if_clones_equal (λ y e. e) in
    none_marked 1 c.in_ok-marks.marks.items (λ k. subst (λ (l : List ℕ). get_or l k 0 < 0 + 1) (sym zeros) (zeros_below c.args.count k 0))
