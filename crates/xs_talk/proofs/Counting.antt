-- Texts with numbers between them.
use Rattle.std.proofs.Common.{◌≡◌, ℕ, List, subst}
use Rattle.xs_talk.specs.Counts.{counted}

-- a number that is written after a text is written after the same text, and is the same number
pub counted_on : (a b line : List ℕ) (m n : ℕ) (after : List ℕ) → line ≡ counted a m after → a ≡ b → m ≡ n → line ≡ counted b n after
counted_on a b line m n after is same count = subst (λ (x : List ℕ). line ≡ counted x n after) same (subst (λ k. line ≡ counted a k after) count is)
