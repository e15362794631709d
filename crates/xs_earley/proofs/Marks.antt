-- Nonterminals are marked, and all marks are removed.
use Rattle.std.proofs.Common.{◌≡◌, ℕ, zero, suc, ◌+◌, ◌<◌, true, false, List, [], ◌∷◌, get_or, set, replicate, inl, inr, refl, ◌∙◌, ap, arith}
use Rattle.std.specs.Prelude.{nat_eq}
use Rattle.std.proofs.lemmas.Bool.{cases_lt, eq-eqb, ne_eqb}
use Rattle.std.proofs.lemmas.List.{get_or-replicate, get_or_past, length-replicate, map-set}
use Rattle.xs_earley.specs.Called.{marked}

-- where each number is below the last one, none is marked
pub none_marked : (last : ℕ) (marks : List ℕ) → ((k : ℕ) → get_or marks k 0 < last) → (k : ℕ) → get_or (marked last marks) k false ≡ false
none_marked last [] below k = refl
none_marked last (m ∷ marks) below zero = ne_eqb m last (λ e. let lt = below 0 in absurd (omega (arith, e, lt)))
none_marked last (m ∷ marks) below (suc k) = none_marked last marks (λ n. below (suc n)) k

-- one is marked by the last number
pub marked_more : (last : ℕ) (marks : List ℕ) (k : ℕ) → marked last (set marks k last) ≡ set (marked last marks) k true
marked_more last marks k = map-set (λ mark. nat_eq mark last) marks k last ∙ ap (λ b. set (marked last marks) k b) (eq-eqb last last refl)

-- of zeros none is above
pub zeros_below : (n k last : ℕ) → get_or (replicate n 0) k 0 < last + 1
zeros_below n k last = elim (cases_lt k n) [
  | inl lt ↦ (let zero : get_or {A = ℕ} (replicate n 0) k 0 ≡ 0 = get_or-replicate {A = ℕ} n k 0 0 lt in omega (arith, zero))
  | inr le ↦ (let zero : get_or {A = ℕ} (replicate n 0) k 0 ≡ 0 = get_or_past (replicate n 0) k 0 (rw length-replicate le) in omega (arith, zero))
]
