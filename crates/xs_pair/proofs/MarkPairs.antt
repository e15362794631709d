-- The pairs of marks of one name more.
use Rattle.std.proofs.Common.{◌≡◌, ◌∙◌, ◌+◌, ap, sym, ℕ, zero, suc, List, [], ◌∷◌, ◌++◌, arith}
use Rattle.xs_class.specs.Marks.{opening_mark, closing_mark}
use Rattle.xs_pair.specs.Fences.{mark_pairs}

same_pair : (j k : ℕ) → j ≡ k → ◌≡◌ {A = List (ℕ × ℕ)} ((opening_mark j, closing_mark j) ∷ []) ((opening_mark k, closing_mark k) ∷ [])
same_pair j k e = ap (λ (m : ℕ). (opening_mark m, closing_mark m) ∷ []) e

pairs_push : (k count : ℕ) → mark_pairs k (suc count) ≡ mark_pairs k count ++ (opening_mark (k + count), closing_mark (k + count)) ∷ []
pairs_push k zero = same_pair k (k + 0) (omega arith)
pairs_push k (suc count) =
    ap (λ (z : List (ℕ × ℕ)). (opening_mark k, closing_mark k) ∷ z) (pairs_push (k + 1) count ∙ ap (λ (z : List (ℕ × ℕ)). mark_pairs (k + 1) count ++ z) (same_pair (k + 1 + count) (k + suc count) (omega arith)))

pub pairs_more : (count : ℕ) (old new : List (ℕ × ℕ)) (opening closing : ℕ) → old ≡ mark_pairs 0 count → new ≡ old ++ (opening, closing) ∷ [] → opening ≡ opening_mark count → closing ≡ closing_mark count → new ≡ mark_pairs 0 (count + 1)
pairs_more count old new opening closing before is left right =
    let longer : suc count ≡ count + 1 = omega arith in
    is ∙ ap (λ (z : List (ℕ × ℕ)). z ++ (opening, closing) ∷ []) before ∙ ap (λ (m : ℕ). mark_pairs 0 count ++ (m, closing) ∷ []) left ∙ ap (λ (m : ℕ). mark_pairs 0 count ++ (opening_mark count, m) ∷ []) right ∙ ap (λ (z : List (ℕ × ℕ)). mark_pairs 0 count ++ z) (same_pair count (0 + count) (omega arith)) ∙ sym (pairs_push 0 count) ∙ ap (λ (m : ℕ). mark_pairs 0 m) longer
