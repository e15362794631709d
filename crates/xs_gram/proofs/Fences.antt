-- Facts on the symbols of fences.
use Rattle.std.proofs.Common.{◌≡◌, ◌≢◌, ◌⊎◌, inl, inr, ℕ, suc, zero, List, [], ◌∷◌, refl, sym, ap, ◌∙◌, arith, true, false, Bool, ◌==◌, eqb-true}
use Rattle.std.specs.List.{Contains}
use Rattle.xs_class.proofs.Truth.{eq_self, or_left, or_right}
use Rattle.xs_gram.specs.declared.parts.GItem.TheVariants.{Fixed}
use Rattle.xs_gram.specs.Laws.{Every, IsDistinct}
use Rattle.xs_gram.specs.Fences.{fence_symbols, is_left, is_right, IsFence, IsPlain}

-- the two symbols are one of the fences
abbrev pub IsAmong : List (ℕ × ℕ) → ℕ → ℕ → Type 0
IsAmong [] l r = ⊥
IsAmong (f ∷ fs) l r = ((f.0 ≡ l) × (f.1 ≡ r)) ⊎ IsAmong fs l r

contained : (fs : List (ℕ × ℕ)) (l r : ℕ) → Contains fs (l, r) → IsAmong fs l r
contained [] l r (k, lt, e) = absurd (omega arith)
contained (f ∷ fs) l r (zero, lt, e) = inl (ap (λ (p : ℕ × ℕ). p.0) e, ap (λ (p : ℕ × ℕ). p.1) e)
contained (f ∷ fs) l r (suc k, lt, e) = inr (contained fs l r (k, omega arith, e))

pub among : (fs : List (ℕ × ℕ)) (l r : ℕ) → IsFence fs l r → IsAmong fs l r
among fs l r f = contained fs l r f.is

pub of_among : (fs : List (ℕ × ℕ)) (l r : ℕ) → IsAmong fs l r → IsFence fs l r
of_among fs l r h = record { is = held fs l r h }
  where
    held : (fs : List (ℕ × ℕ)) (l r : ℕ) → IsAmong fs l r → Contains fs (l, r)
    held [] l r h = absurd h
    held (f ∷ fs) l r (inl e) = (0, omega arith, both f.0 f.1 e.0 e.1)
      where
        both : (a b : ℕ) → a ≡ l → b ≡ r → ◌≡◌ {A = ℕ × ℕ} (a, b) (l, r)
        both a b x y = cc
    held (f ∷ fs) l r (inr h) = let k = held fs l r h in (suc k.0, omega (arith, k.1), k.2)

same_test : (a b : ℕ) → a ≡ b → (a == b) ≡ true
same_test a b e = rw e (eq_self b)

left_among : (fs : List (ℕ × ℕ)) (l r : ℕ) → IsAmong fs l r → is_left fs l ≡ true
left_among [] l r h = absurd h
left_among (f ∷ fs) l r (inl e) = or_left (f.0 == l) (is_left fs l) (same_test f.0 l e.0)
left_among (f ∷ fs) l r (inr h) = or_right (f.0 == l) (is_left fs l) (left_among fs l r h)

right_among : (fs : List (ℕ × ℕ)) (l r : ℕ) → IsAmong fs l r → is_right fs r ≡ true
right_among [] l r h = absurd h
right_among (f ∷ fs) l r (inl e) = or_left (f.1 == r) (is_right fs r) (same_test f.1 r e.1)
right_among (f ∷ fs) l r (inr h) = or_right (f.1 == r) (is_right fs r) (right_among fs l r h)

pub is_left_of : {fs : List (ℕ × ℕ)} {l r : ℕ} → IsFence fs l r → is_left fs l ≡ true
is_left_of {fs} {l} {r} f = left_among fs l r (among fs l r f)

pub is_right_of : {fs : List (ℕ × ℕ)} {l r : ℕ} → IsFence fs l r → is_right fs r ≡ true
is_right_of {fs} {l} {r} f = right_among fs l r (among fs l r f)

false_true : {b : Bool} → b ≡ true → b ≡ false → ⊥
false_true e h = cc

-- a fence symbol alone is not plain
pub left_not_plain : {fs : List (ℕ × ℕ)} {l r : ℕ} → IsFence fs l r → IsPlain fs (Fixed (l ∷ [])) → ⊥
left_not_plain {fs} {l} f plain = false_true (or_left (is_left fs l) (is_right fs l) (is_left_of f)) (plain l (0, omega arith, refl))

pub right_not_plain : {fs : List (ℕ × ℕ)} {l r : ℕ} → IsFence fs l r → IsPlain fs (Fixed (r ∷ [])) → ⊥
right_not_plain {fs} {r = r} f plain = false_true (or_right (is_left fs r) (is_right fs r) (is_right_of f)) (plain r (0, omega arith, refl))

-- a symbol of a fence is among their symbols
symbols_among : (P : ℕ → Type 0) (fs : List (ℕ × ℕ)) (l r : ℕ) → IsAmong fs l r → Every P (fence_symbols fs) → P l × P r
symbols_among P [] l r h every = absurd h
symbols_among P (f ∷ fs) l r (inl e) every = (rw (sym e.0) every.0, rw (sym e.1) every.1.0)
symbols_among P (f ∷ fs) l r (inr h) every = symbols_among P fs l r h every.1.1

apart_among : (fs : List (ℕ × ℕ)) (l r m s : ℕ) → IsDistinct (fence_symbols fs) → IsAmong fs l r → IsAmong fs m s → l ≡ s → ⊥
apart_among [] l r m s once h k e = h
apart_among (f ∷ fs) l r m s once (inl h) (inl k) e = once.0.0 (k.1 ∙ sym e ∙ sym h.0)
apart_among (f ∷ fs) l r m s once (inl h) (inr k) e = (symbols_among (λ (n : ℕ). n ≢ f.0) fs m s k once.0.1).1 (sym e ∙ sym h.0)
apart_among (f ∷ fs) l r m s once (inr h) (inl k) e = (symbols_among (λ (n : ℕ). n ≢ f.1) fs l r h once.1.0).0 (e ∙ sym k.1)
apart_among (f ∷ fs) l r m s once (inr h) (inr k) e = apart_among fs l r m s once.1.1 h k e

-- two fences that share a symbol are one
one_among : (fs : List (ℕ × ℕ)) (l r m s : ℕ) → IsDistinct (fence_symbols fs) → IsAmong fs l r → IsAmong fs m s → (l ≡ m) ⊎ (r ≡ s) → (l ≡ m) × (r ≡ s)
one_among [] l r m s once h k e = absurd h
one_among (f ∷ fs) l r m s once (inl h) (inl k) e = (sym h.0 ∙ k.0, sym h.1 ∙ k.1)
one_among (f ∷ fs) l r m s once (inl h) (inr k) (inl e) = absurd ((symbols_among (λ (n : ℕ). n ≢ f.0) fs m s k once.0.1).0 (sym e ∙ sym h.0))
one_among (f ∷ fs) l r m s once (inl h) (inr k) (inr e) = absurd ((symbols_among (λ (n : ℕ). n ≢ f.1) fs m s k once.1.0).1 (sym e ∙ sym h.1))
one_among (f ∷ fs) l r m s once (inr h) (inl k) (inl e) = absurd ((symbols_among (λ (n : ℕ). n ≢ f.0) fs l r h once.0.1).0 (e ∙ sym k.0))
one_among (f ∷ fs) l r m s once (inr h) (inl k) (inr e) = absurd ((symbols_among (λ (n : ℕ). n ≢ f.1) fs l r h once.1.0).1 (e ∙ sym k.1))
one_among (f ∷ fs) l r m s once (inr h) (inr k) e = one_among fs l r m s once.1.1 h k e

-- no symbol is a left and a right one, and each has one partner
pub sides_apart : {fs : List (ℕ × ℕ)} {l r m s : ℕ} → IsDistinct (fence_symbols fs) → IsFence fs l r → IsFence fs m s → l ≡ s → ⊥
sides_apart {fs} {l} {r} {m} {s} once f h e = apart_among fs l r m s once (among fs l r f) (among fs m s h) e

pub one_right : {fs : List (ℕ × ℕ)} {l r m s : ℕ} → IsDistinct (fence_symbols fs) → IsFence fs l r → IsFence fs m s → l ≡ m → r ≡ s
one_right {fs} {l} {r} {m} {s} once f h e = (one_among fs l r m s once (among fs l r f) (among fs m s h) (inl e)).1

pub one_left : {fs : List (ℕ × ℕ)} {l r m s : ℕ} → IsDistinct (fence_symbols fs) → IsFence fs l r → IsFence fs m s → r ≡ s → l ≡ m
one_left {fs} {l} {r} {m} {s} once f h e = (one_among fs l r m s once (among fs l r f) (among fs m s h) (inr e)).0

-- a left one has a partner
has_right : (fs : List (ℕ × ℕ)) (l : ℕ) → is_left fs l ≡ true → (r : ℕ) × IsAmong fs l r
has_right [] l e = absurd (false_true {b = false} e refl)
has_right (f ∷ fs) l e = by_case (f.0 == l) refl (λ later. has_right fs l later)
  where
    by_case : (b : Bool) → (f.0 == l) ≡ b → (is_left fs l ≡ true → (r : ℕ) × IsAmong fs l r) → (r : ℕ) × IsAmong (f ∷ fs) l r
    by_case true is more = (f.1, inl (eqb-true f.0 l is, refl))
    by_case false is more = let k = more (rw is at e) in (k.0, inr k.1)

pub some_right : (fs : List (ℕ × ℕ)) (l : ℕ) → is_left fs l ≡ true → (r : ℕ) × IsFence fs l r
some_right fs l e = let h = has_right fs l e in (h.0, of_among fs l h.0 h.1)

-- and so has a right one
has_left : (fs : List (ℕ × ℕ)) (r : ℕ) → is_right fs r ≡ true → (l : ℕ) × IsAmong fs l r
has_left [] r e = absurd (false_true {b = false} e refl)
has_left (f ∷ fs) r e = by_case (f.1 == r) refl (λ later. has_left fs r later)
  where
    by_case : (b : Bool) → (f.1 == r) ≡ b → (is_right fs r ≡ true → (l : ℕ) × IsAmong fs l r) → (l : ℕ) × IsAmong (f ∷ fs) l r
    by_case true is more = (f.0, inl (refl, eqb-true f.1 r is))
    by_case false is more = let k = more (rw is at e) in (k.0, inr k.1)

pub some_left : (fs : List (ℕ × ℕ)) (r : ℕ) → is_right fs r ≡ true → (l : ℕ) × IsFence fs l r
some_left fs r e = let h = has_left fs r e in (h.0, of_among fs h.0 r h.1)

-- so a left one is no right one, and a right one no left one
pub left_not_right : {fs : List (ℕ × ℕ)} {l r : ℕ} → IsDistinct (fence_symbols fs) → IsFence fs l r → is_right fs l ≡ false
left_not_right {fs} {l} once f = by_case (is_right fs l) refl
  where
    by_case : (b : Bool) → is_right fs l ≡ b → is_right fs l ≡ false
    by_case true is = let h = some_left fs l is in absurd (sides_apart once f h.1 refl)
    by_case false is = is

pub right_not_left : {fs : List (ℕ × ℕ)} {l r : ℕ} → IsDistinct (fence_symbols fs) → IsFence fs l r → is_left fs r ≡ false
right_not_left {fs} {r = r} once f = by_case (is_left fs r) refl
  where
    by_case : (b : Bool) → is_left fs r ≡ b → is_left fs r ≡ false
    by_case true is = let h = some_right fs r is in absurd (sides_apart once h.1 f refl)
    by_case false is = is
