-- Sums over numbers from 0 on, each once, in any order.
use Rattle.std.proofs.Common.{◌≡◌, ◌≢◌, ◌⊎◌, inl, inr, ℕ, suc, zero, ◌+◌, ◌<◌, ◌≤◌, List, [], ◌∷◌, length, refl, ◌∙◌, ap, arith}
use Rattle.xs_gram.specs.Laws.{Every, IsDistinct, IsNumbered}

abbrev pub sum_of : (ℕ → ℕ) → List ℕ → ℕ
sum_of f [] = 0
sum_of f (n ∷ ns) = f n + sum_of f ns

-- the sum over that many numbers from 0 on
abbrev pub sum_upto : (ℕ → ℕ) → ℕ → ℕ
sum_upto f zero = 0
sum_upto f (suc n) = f 0 + sum_upto (λ k. f (suc k)) n

-- one less than each number that is not 0
abbrev lowered : List ℕ → List ℕ
lowered [] = []
lowered (zero ∷ ns) = lowered ns
lowered (suc k ∷ ns) = k ∷ lowered ns

lowered_other : (k : ℕ) (ns : List ℕ) → Every (λ m. m ≢ suc k) ns → Every (λ m. m ≢ k) (lowered ns)
lowered_other k [] every = tt
lowered_other k (zero ∷ ns) every = lowered_other k ns every.1
lowered_other k (suc m ∷ ns) every = ((λ e. every.0 (ap suc e)), lowered_other k ns every.1)

lowered_distinct : (ns : List ℕ) → IsDistinct ns → IsDistinct (lowered ns)
lowered_distinct [] distinct = tt
lowered_distinct (zero ∷ ns) distinct = lowered_distinct ns distinct.1
lowered_distinct (suc k ∷ ns) distinct = (lowered_other k ns distinct.0, lowered_distinct ns distinct.1)

lowered_below : (n : ℕ) (ns : List ℕ) → Every (λ m. m < suc n) ns → Every (λ m. m < n) (lowered ns)
lowered_below n [] every = tt
lowered_below n (zero ∷ ns) every = lowered_below n ns every.1
lowered_below n (suc k ∷ ns) every = (omega (arith, every.0), lowered_below n ns every.1)

-- 0 is not among the numbers, or it is once
record IsSplit (f : ℕ → ℕ) (ns : List ℕ) (zeros first : ℕ) : Type 0 where
  pub long : length ns ≡ zeros + length (lowered ns)
  pub sum : sum_of f ns ≡ first + sum_of (λ k. f (suc k)) (lowered ns)

no_zero : (f : ℕ → ℕ) (ns : List ℕ) → Every (λ m. m ≢ 0) ns → IsSplit f ns 0 0
no_zero f [] every = record { long = refl; sum = refl }
no_zero f (zero ∷ ns) every = absurd (every.0 refl)
no_zero f (suc k ∷ ns) every = let rest = no_zero f ns every.1 in record { long = omega (arith, rest.long); sum = omega (arith, rest.sum) }

split : (f : ℕ → ℕ) (ns : List ℕ) → IsDistinct ns → IsSplit f ns 0 0 ⊎ IsSplit f ns 1 (f 0)
split f [] distinct = inl (record { long = refl; sum = refl })
split f (zero ∷ ns) distinct = let rest = no_zero f ns distinct.0 in inr (record { long = omega (arith, rest.long); sum = omega (arith, rest.sum) })
split f (suc k ∷ ns) distinct = next (split f ns distinct.1)
  where
    next : IsSplit f ns 0 0 ⊎ IsSplit f ns 1 (f 0) → IsSplit f (suc k ∷ ns) 0 0 ⊎ IsSplit f (suc k ∷ ns) 1 (f 0)
    next (inl rest) = inl (record { long = omega (arith, rest.long); sum = omega (arith, rest.sum) })
    next (inr rest) = inr (record { long = omega (arith, rest.long); sum = omega (arith, rest.sum) })

-- of distinct numbers below n there are at most n
few : (n : ℕ) (ns : List ℕ) → Every (λ m. m < n) ns → IsDistinct ns → length ns ≤ n
few zero [] every distinct = omega arith
few zero (k ∷ ns) every distinct = absurd (omega (arith, every.0))
few (suc n) ns every distinct = next (few n (lowered ns) (lowered_below n ns every) (lowered_distinct ns distinct)) (split (λ k. k) ns distinct)
  where
    next : length (lowered ns) ≤ n → IsSplit (λ k. k) ns 0 0 ⊎ IsSplit (λ k. k) ns 1 0 → length ns ≤ suc n
    next rest (inl s) = omega (arith, s.long, rest)
    next rest (inr s) = omega (arith, s.long, rest)

sums : (f : ℕ → ℕ) (n : ℕ) (ns : List ℕ) → length ns ≡ n → Every (λ m. m < n) ns → IsDistinct ns → sum_of f ns ≡ sum_upto f n
sums f zero [] long every distinct = refl
sums f zero (k ∷ ns) long every distinct = absurd (omega (arith, every.0))
sums f (suc n) ns long every distinct =
    let below : Every (λ m. m < n) (lowered ns) = lowered_below n ns every in
    let apart : IsDistinct (lowered ns) = lowered_distinct ns distinct in
    next (few n (lowered ns) below apart) (λ e. sums (λ k. f (suc k)) n (lowered ns) e below apart) (split f ns distinct)
  where
    next : length (lowered ns) ≤ n → (length (lowered ns) ≡ n → sum_of (λ k. f (suc k)) (lowered ns) ≡ sum_upto (λ k. f (suc k)) n) → IsSplit f ns 0 0 ⊎ IsSplit f ns 1 (f 0) → sum_of f ns ≡ sum_upto f (suc n)
    next le rest (inl s) = absurd (omega (arith, s.long, long, le))
    next le rest (inr s) = omega (arith, s.sum, rest (omega (arith, s.long, long)))

-- the sum in any order is that in ascending order
pub sum_numbered : (f : ℕ → ℕ) (ns : List ℕ) → IsNumbered ns → sum_of f ns ≡ sum_upto f (length ns)
sum_numbered f ns numbered = sums f (length ns) ns refl numbered.below numbered.once

-- the sum over that many numbers from one on
abbrev pub sum_from : (ℕ → ℕ) → ℕ → ℕ → ℕ
sum_from f k zero = 0
sum_from f k (suc n) = f k + sum_from f (k + 1) n

pub upto_from : (f e : ℕ → ℕ) (k n : ℕ) → ((j : ℕ) → e j ≡ f (k + j)) → sum_upto e n ≡ sum_from f k n
upto_from f e k zero same = refl
upto_from f e k (suc n) same =
    let first : e 0 ≡ f k = same 0 ∙ ap f (omega arith) in
    let rest : sum_upto (λ j. e (suc j)) n ≡ sum_from f (k + 1) n = upto_from f (λ j. e (suc j)) (k + 1) n (λ j. same (suc j) ∙ ap f (omega arith)) in
    omega (arith, first, rest)
