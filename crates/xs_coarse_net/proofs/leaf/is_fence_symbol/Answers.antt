use Rattle.std.proofs.Common.{ℕ, sym, ap, ◌∙◌}
use Rattle.xs_coarse_net.proofs.Laying.{left_is_fence, right_is_fence}
use Rattle.xs_coarse_net.proofs.leaf.is_fence_symbol.Goals as goal

pub returns-then-number : goal.returns-then-number
returns-then-number c = λ e. left_is_fence c.args.fences.now c.fences.fence-index c.args.symbol c.fence-item.result c.fences-test.true (ap (λ (f : ℕ × ℕ). f.0) (sym c.fence-item.is) ∙ sym c.number.ensures ∙ c.if-number.true ∙ c.number-in-fences.ensures)

pub returns-then-number-2 : goal.returns-then-number-2
returns-then-number-2 c = λ e. right_is_fence c.args.fences.now c.fences.fence-index c.args.symbol c.fence-item.result c.fences-test.true (ap (λ (f : ℕ × ℕ). f.1) (sym c.fence-item.is) ∙ sym c.number-in-fences-2.ensures ∙ c.if-number-2.true ∙ c.number-in-fences-3.ensures)
