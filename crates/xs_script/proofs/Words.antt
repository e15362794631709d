-- Words that are compared symbol by symbol.
use Rattle.std.proofs.Common.{◌≡◌, ◌≢◌, ℕ, suc, ◌+◌, ◌<◌, ◌≤◌, List, [], ◌∷◌, ◌++◌, length, take, get_or, sym, ap, ◌∙◌, arith}
use Rattle.std.proofs.lemmas.List.{take_all}
use Rattle.std.proofs.Math.Seq.{take-suc}

pub not_as_long : (a b : List ℕ) → length a ≢ length b → a ≡ b → ⊥
not_as_long a b apart e = apart (ap (λ (l : List ℕ). length l) e)

pub not_at : (a b : List ℕ) (k : ℕ) → get_or a k 0 ≢ get_or b k 0 → a ≡ b → ⊥
not_at a b k apart e = apart (ap (λ (l : List ℕ). get_or l k 0) e)

pub same_more : (a b : List ℕ) (k : ℕ) → k < length a → k < length b → take k a ≡ take k b → get_or a k 0 ≡ get_or b k 0 → take (k + 1) a ≡ take (k + 1) b
same_more a b k within also so here =
    ap (λ n. take n a) next ∙ take-suc a k 0 within ∙ ap (λ (l : List ℕ). l ++ get_or a k 0 ∷ []) so ∙ ap (λ x. take k b ++ x ∷ []) here ∙ sym (take-suc b k 0 also) ∙ ap (λ n. take n b) (sym next)
  where
    next : k + 1 ≡ suc k
    next = omega arith

pub same_whole : (a b : List ℕ) (k : ℕ) → length a ≤ k → length b ≤ k → take k a ≡ take k b → a ≡ b
same_whole a b k all also so = sym (take_all k a all) ∙ so ∙ take_all k b also
