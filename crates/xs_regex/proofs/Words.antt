-- The words that are made of a number of words.
use Rattle.std.proofs.Common.{◌≡◌, ◌⊎◌, ◌∙◌, ℕ, zero, suc, ◌+◌, ◌*◌, ◌≤◌, List, [], ◌∷◌, ◌++◌, length, refl, ap, inl, inr, arith, length-append}
use Rattle.std.specs.declared.option.Option.{Option}
use Rattle.xs_regex.specs.Matches.{joined, Each, AtMost, Repeats}
use Rattle.xs_regex.specs.Size.{times}

-- one word more at the front
pub one_more : (P : List ℕ → Type 0) (least : ℕ) (most more : Option ℕ) (u v : List ℕ) → ((k : ℕ) → AtMost k most → AtMost (suc k) more) → P u → Repeats P least most v → Repeats P (least + 1) more (u ++ v)
one_more P least most more u v up p h = (u ∷ h.0, ap (λ (x : List ℕ). u ++ x) h.1, (p, h.2), omega (arith, h.3), up (length h.0) h.4)

pub fewer : (P : List ℕ → Type 0) (least less : ℕ) (most : Option ℕ) (w : List ℕ) → less ≤ least → Repeats P least most w → Repeats P less most w
fewer P least less most w l h = (h.0, h.1, h.2, omega (arith, h.3), h.4)

-- the first word, and the others
pub first_word : (P : List ℕ → Type 0) (least : ℕ) (most more : Option ℕ) (w : List ℕ) → ((k : ℕ) → AtMost (suc k) more → AtMost k most) → Repeats P (least + 1) more w → (u : List ℕ) × (v : List ℕ) × (w ≡ u ++ v) × P u × Repeats P least most v
first_word P least most more w down h = first h.0 h.1 h.2 h.3 h.4
  where
    first : (ws : List (List ℕ)) → w ≡ joined ws → Each P ws → least + 1 ≤ length ws → AtMost (length ws) more → (u : List ℕ) × (v : List ℕ) × (w ≡ u ++ v) × P u × Repeats P least most v
    first [] e a l m = absurd (omega arith)
    first (u ∷ us) e a l m = (u, joined us, e, a.0, (us, refl, a.1, omega arith, down (length us) m))

pub none_or_first : (P : List ℕ → Type 0) (most more : Option ℕ) (w : List ℕ) → ((k : ℕ) → AtMost (suc k) more → AtMost k most) → Repeats P 0 more w → (w ≡ []) ⊎ ((u : List ℕ) × (v : List ℕ) × (w ≡ u ++ v) × P u × Repeats P 0 most v)
none_or_first P most more w down h = first h.0 h.1 h.2 h.4
  where
    first : (ws : List (List ℕ)) → w ≡ joined ws → Each P ws → AtMost (length ws) more → (w ≡ []) ⊎ ((u : List ℕ) × (v : List ℕ) × (w ≡ u ++ v) × P u × Repeats P 0 most v)
    first [] e a m = inl e
    first (u ∷ us) e a m = inr (u, joined us, e, a.0, (us, refl, a.1, omega arith, down (length us) m))

-- words that are all empty
pub all_empty : (ws : List (List ℕ)) → Each (λ u. u ≡ []) ws → joined ws ≡ []
all_empty [] a = refl
all_empty (w ∷ ws) a = rw (a.0, all_empty ws a.1) refl

-- as many empty words as are wanted
pub empty_words : (P : List ℕ → Type 0) (n : ℕ) → P [] → (ws : List (List ℕ)) × ([] ≡ joined ws) × Each P ws × (length ws ≡ n)
empty_words P zero p = ([], refl, tt, refl)
empty_words P (suc n) p = let h = empty_words P n p in ([] ∷ h.0, h.1, (p, h.2), ap (λ k. suc k) h.3)

pub length-times : {X : Type 0} (n : ℕ) (xs : List X) → length (times n xs) ≡ n * length xs
length-times zero xs = omega arith
length-times (suc n) xs = length-append xs (times n xs) ∙ omega (arith, length-times n xs)

pub times-nil : {X : Type 0} (n : ℕ) → times {X = X} n [] ≡ []
times-nil zero = refl
times-nil (suc n) = times-nil n
