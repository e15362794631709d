-- Lists of the numbers between two bounds, as the upper one grows.
use Rattle.std.proofs.Common.{◌≡◌, ℕ, zero, suc, ◌+◌, ◌-◌, ◌<◌, ◌≤◌, Bool, true, false, cond, List, [], ◌∷◌, ◌++◌, filter, map, flat_map, length, get_or, take, refl, sym, ap, ◌∙◌, arith, append-nil}
use Rattle.std.specs.List.{range_with_len}
use Rattle.std.proofs.lemmas.List.{map-append, get_or_default}
use Rattle.std.proofs.lemmas.List.Concat.{flat_map-append}
use Rattle.std.proofs.lemmas.List.Elements.{filter-append}
use Rattle.xs_cert_laws.specs.Certificates.{between}

range_more : (len low : ℕ) → range_with_len low (suc len) ≡ range_with_len low len ++ (low + len) ∷ []
range_more zero low = let same : low ≡ low + 0 = omega arith in ap (λ n. n ∷ []) same
range_more (suc len) low =
    let later = range_more len (low + 1) in
    let same : low + 1 + len ≡ low + suc len = omega arith in
    ap (λ ns. low ∷ ns) (later ∙ ap (λ n. range_with_len (low + 1) len ++ n ∷ []) same)

pub between_none : (low : ℕ) → between low low ≡ []
between_none low = let none : low - low ≡ 0 = omega arith in ap (range_with_len low) none

pub between_more : (low high : ℕ) → low ≤ high → between low (high + 1) ≡ between low high ++ high ∷ []
between_more low high le =
    let length : high + 1 - low ≡ suc (high - low) = omega arith in
    let last : low + (high - low) ≡ high = omega arith in
    ap (range_with_len low) length ∙ range_more (high - low) low ∙ ap (λ n. range_with_len low (high - low) ++ n ∷ []) last

-- one number more passes the test, or does not
pub filter_more : (test : ℕ → Bool) (low high : ℕ) → low ≤ high → test high ≡ true → filter test (between low (high + 1)) ≡ filter test (between low high) ++ high ∷ []
filter_more test low high le passes = ap (filter test) (between_more low high le) ∙ filter-append test (between low high) (high ∷ []) ∙ ap (λ b. filter test (between low high) ++ cond b (high ∷ []) []) passes

pub filter_same : (test : ℕ → Bool) (low high : ℕ) → low ≤ high → test high ≡ false → filter test (between low (high + 1)) ≡ filter test (between low high)
filter_same test low high le fails = ap (filter test) (between_more low high le) ∙ filter-append test (between low high) (high ∷ []) ∙ ap (λ b. filter test (between low high) ++ cond b (high ∷ []) []) fails ∙ append-nil (filter test (between low high))

-- one number more has its own list
pub flat_more : {A : Type 0} (f : ℕ → List A) (low high : ℕ) → low ≤ high → flat_map f (between low (high + 1)) ≡ flat_map f (between low high) ++ f high
flat_more f low high le = ap (flat_map f) (between_more low high le) ∙ flat_map-append f (between low high) (high ∷ []) ∙ ap (λ x. flat_map f (between low high) ++ x) (append-nil (f high))

pub map_more : {A : Type 0} (f : ℕ → A) (low high : ℕ) → low ≤ high → map f (between low (high + 1)) ≡ map f (between low high) ++ f high ∷ []
map_more f low high le = ap (map f) (between_more low high le) ∙ map-append f (between low high) (high ∷ [])

-- what passes the test is one of the numbers, and the test says so
pub record Passes (test : ℕ → Bool) (low len n : ℕ) : Type 0 where
  pub yes : test n ≡ true
  pub first : low ≤ n
  pub last : n < low + len

passed_on : {test : ℕ → Bool} {low len n : ℕ} → Passes test (low + 1) len n → Passes test low (suc len) n
passed_on p = record { yes = p.yes; first = omega (arith, p.first); last = omega (arith, p.last) }

put : (test : ℕ → Bool) (low len : ℕ) (b : Bool) → test low ≡ b → (rest : List ℕ) → ((j : ℕ) → j < length rest → Passes test (low + 1) len (get_or rest j 0)) → (j : ℕ) → j < length (cond b (low ∷ rest) rest) → Passes test low (suc len) (get_or (cond b (low ∷ rest) rest) j 0)
put test low len true e rest each zero less = record { yes = e; first = omega arith; last = omega arith }
put test low len true e rest each (suc j) less = passed_on (each j (omega arith))
put test low len false e rest each j less = passed_on (each j less)

passes_in : (test : ℕ → Bool) (low len k : ℕ) → k < length (filter test (range_with_len low len)) → Passes test low len (get_or (filter test (range_with_len low len)) k 0)
passes_in test low zero k lt = absurd (omega arith)
passes_in test low (suc len) k lt = put test low len (test low) refl (filter test (range_with_len (low + 1) len)) (passes_in test (low + 1) len) k lt

pub passes_at : (test : ℕ → Bool) (low high k : ℕ) → k < length (filter test (between low high)) → Passes test low (high - low) (get_or (filter test (between low high)) k 0)
passes_at test low high k lt = passes_in test low (high - low) k lt

-- the element at a place passes the test
pub passed : (test : ℕ → Bool) (low high : ℕ) (items : List ℕ) (at x : ℕ) → items ≡ filter test (between low high) → at < length items → x ≡ get_or items at x → Passes test low (high - low) x
passed test low high items at x same within is =
    let found = passes_at test low high at (rw (← same) within) in
    let other : x ≡ get_or (filter test (between low high)) at 0 = is ∙ get_or_default items at x 0 within ∙ ap (λ xs. get_or xs at 0) same in
    rw other found
