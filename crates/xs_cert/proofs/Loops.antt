-- Blocks for lists of heads, one after another.
use Rattle.std.proofs.Common.{◌≡◌, ℕ, zero, suc, ◌+◌, ◌-◌, ◌≤◌, ◌<◌, List, [], ◌∷◌, ◌++◌, length, map, flat_map, filter, take, drop, get_or, Bool, refl, sym, ap, subst, ◌∙◌, arith, append_assoc, append-nil, All}
use Rattle.std.specs.List.{range_with_len}
use Rattle.std.proofs.lemmas.List.{map-append, take_more, take_all, take-append-drop}
use Rattle.std.proofs.lemmas.List.Elements.{All-filter}
use Rattle.std.proofs.lemmas.List.FromFn.{get_or-range_with_len, length-range_with_len}
use Rattle.xs_auto.specs.Nests.{Group}
use Rattle.xs_gram.specs.Grammar.{Grammar}
use Rattle.xs_cert_laws.specs.Blocks.{Head}
use Rattle.xs_cert_laws.specs.Certificates.{between}
use Rattle.xs_cert.specs.declared.place.Place.{Place}
use Rattle.xs_cert.specs.Readings.{AreWhole, AreBroken}
use Rattle.xs_cert.proofs.Composing.{whole_none, whole_then, whole_broken, whole_as, broken_as}
use Rattle.xs_cert.proofs.Ranges.{between_more}

flat-append : (F : ℕ → List Head) (xs ys : List ℕ) → flat_map F (xs ++ ys) ≡ flat_map F xs ++ flat_map F ys
flat-append F [] ys = refl
flat-append F (x ∷ xs) ys = ap (λ (hs : List Head). F x ++ hs) (flat-append F xs ys) ∙ sym (append_assoc (F x) (flat_map F xs) (flat_map F ys))

-- each number that a test keeps is before the end
pub kept_below : (test : ℕ → Bool) (a n : ℕ) → All (λ k. k < n) (filter test (between a n))
kept_below test a n = All-filter test (λ k. k < n) (between a n) below
  where
    below : All (λ k. k < n) (between a n)
    below k d lt = omega (arith, get_or-range_with_len a (n - a) k d (omega (arith, length-range_with_len a (n - a))), length-range_with_len a (n - a))

-- so is each of a list of those
pub kept_at : (test : ℕ → Bool) (a n : ℕ) (xs : List ℕ) (i : ℕ) → xs ≡ filter test (between a n) → i < length xs → get_or xs i 0 < n
kept_at test a n xs i e lt = subst (λ (ys : List ℕ). All (λ k. k < n) ys) (sym e) (kept_below test a n) i 0 lt

-- the first number, and then the others
between_first : (a b : ℕ) → a < b → between a b ≡ a ∷ between (a + 1) b
between_first a b h = let e : b - a ≡ suc (b - (a + 1)) = omega arith in ap (λ (n : ℕ). range_with_len a n) e

pub no_numbers : (a b : ℕ) → b ≤ a → between a b ≡ []
no_numbers a b h = let e : b - a ≡ 0 = omega arith in ap (λ (n : ℕ). range_with_len a n) e

-- the numbers before an end are those before another and then the rest
between_parts : (a b c : ℕ) → a ≤ b → b ≤ c → between a c ≡ between a b ++ between b c
between_parts a b c h k = by_length (c - b) b h k refl
  where
    by_length : (n b : ℕ) → a ≤ b → b ≤ c → c - b ≡ n → between a c ≡ between a b ++ between b c
    by_length zero b h k e =
        let same : c ≡ b = omega arith in
        ap (λ (m : ℕ). between a m) same ∙ sym (append-nil (between a b)) ∙ ap (λ (xs : List ℕ). between a b ++ xs) (sym (no_numbers b c (omega arith)))
    by_length (suc n) b h k e =
        by_length n (b + 1) (omega arith) (omega arith) (omega arith)
        ∙ ap (λ (xs : List ℕ). xs ++ between (b + 1) c) (between_more a b h)
        ∙ append_assoc (between a b) (b ∷ []) (between (b + 1) c)
        ∙ ap (λ (xs : List ℕ). between a b ++ xs) (sym (between_first b c (omega arith)))

-- those before a number, that number, and those after it
between_around : (a i n : ℕ) → a ≤ i → i < n → between a n ≡ (between a i ++ i ∷ []) ++ between (i + 1) n
between_around a i n h k = between_parts a (i + 1) n (omega arith) (omega arith) ∙ ap (λ (xs : List ℕ). xs ++ between (i + 1) n) (between_more a i h)

flat_one : (F : ℕ → List Head) (a i : ℕ) → flat_map F (between a i) ++ F i ≡ flat_map F (between a i ++ i ∷ [])
flat_one F a i = ap (λ (hs : List Head). flat_map F (between a i) ++ hs) (sym (append-nil (F i))) ∙ sym (flat-append F (between a i) (i ∷ []))

list_one : (f : ℕ → Head) (xs : List ℕ) (i : ℕ) → i < length xs → map f (take i xs) ++ f (get_or xs i 0) ∷ [] ≡ map f (take (i + 1) xs)
list_one f xs i lt = sym (map-append f (take i xs) (get_or xs i 0 ∷ [])) ∙ ap (map f) (sym (take_more xs i 0 lt))

module _ {g : Grammar} {nest : List Group} {R : ℕ → ℕ → Type 0} {bytes : List ℕ} where
  -- over the heads of a list of numbers
  pub list_whole : (f : ℕ → Head) (xs : List ℕ) (i : ℕ) (p q r : Place) → i < length xs → AreWhole g nest R bytes p (map f (take i xs)) q → AreWhole g nest R bytes q (f (get_or xs i 0) ∷ []) r → AreWhole g nest R bytes p (map f (take (i + 1) xs)) r
  list_whole f xs i p q r lt a b = whole_as (whole_then a b) (list_one f xs i lt)

  pub list_broken : (f : ℕ → Head) (xs ys : List ℕ) (i : ℕ) (p q : Place) (most : ℕ) → xs ≡ ys → i < length xs → AreWhole g nest R bytes p (map f (take i xs)) q → AreBroken g nest R bytes q (f (get_or xs i 0) ∷ []) most → AreBroken g nest R bytes p (map f ys) most
  list_broken f xs ys i p q most e lt a b =
      broken_as (map f (drop (i + 1) xs)) (whole_broken a b)
      (ap (λ (hs : List Head). hs ++ map f (drop (i + 1) xs)) (list_one f xs i lt)
      ∙ sym (map-append f (take (i + 1) xs) (drop (i + 1) xs)) ∙ ap (map f) (take-append-drop (i + 1) xs ∙ e))

  pub list_end : (f : ℕ → Head) (xs ys : List ℕ) (i : ℕ) (p q : Place) → xs ≡ ys → length xs ≤ i → AreWhole g nest R bytes p (map f (take i xs)) q → AreWhole g nest R bytes p (map f ys) q
  list_end f xs ys i p q e le a = whole_as a (ap (map f) (take_all i xs le ∙ e))

  -- over the heads of each number of a range
  pub flat_whole : (F : ℕ → List Head) (a i : ℕ) (p q r : Place) → a ≤ i → AreWhole g nest R bytes p (flat_map F (between a i)) q → AreWhole g nest R bytes q (F i) r → AreWhole g nest R bytes p (flat_map F (between a (i + 1))) r
  flat_whole F a i p q r le x y = whole_as (whole_then x y) (flat_one F a i ∙ ap (flat_map F) (sym (between_more a i le)))

  pub flat_broken : (F : ℕ → List Head) (a i n : ℕ) (p q : Place) (most : ℕ) → a ≤ i → i < n → AreWhole g nest R bytes p (flat_map F (between a i)) q → AreBroken g nest R bytes q (F i) most → AreBroken g nest R bytes p (flat_map F (between a n)) most
  flat_broken F a i n p q most le lt x y =
      broken_as (flat_map F (between (i + 1) n)) (whole_broken x y)
      (ap (λ (hs : List Head). hs ++ flat_map F (between (i + 1) n)) (flat_one F a i) ∙ sym (flat-append F (between a i ++ i ∷ []) (between (i + 1) n)) ∙ ap (flat_map F) (sym (between_around a i n le lt)))

  -- over a head for each number of a range
  pub map_whole : (f : ℕ → Head) (a i : ℕ) (p q r : Place) → a ≤ i → AreWhole g nest R bytes p (map f (between a i)) q → AreWhole g nest R bytes q (f i ∷ []) r → AreWhole g nest R bytes p (map f (between a (i + 1))) r
  map_whole f a i p q r le x y = whole_as (whole_then x y) (sym (map-append f (between a i) (i ∷ [])) ∙ ap (map f) (sym (between_more a i le)))

  pub map_broken : (f : ℕ → Head) (a i n : ℕ) (p q : Place) (most : ℕ) → a ≤ i → i < n → AreWhole g nest R bytes p (map f (between a i)) q → AreBroken g nest R bytes q (f i ∷ []) most → AreBroken g nest R bytes p (map f (between a n)) most
  map_broken f a i n p q most le lt x y =
      broken_as (map f (between (i + 1) n)) (whole_broken x y)
      (ap (λ (hs : List Head). hs ++ map f (between (i + 1) n)) (sym (map-append f (between a i) (i ∷ []))) ∙ sym (map-append f (between a i ++ i ∷ []) (between (i + 1) n)) ∙ ap (map f) (sym (between_around a i n le lt)))

  pub flat_end : (F : ℕ → List Head) (a i n : ℕ) (p q : Place) → i ≡ n → AreWhole g nest R bytes p (flat_map F (between a i)) q → AreWhole g nest R bytes p (flat_map F (between a n)) q
  flat_end F a i n p q e x = whole_as x (ap (λ (m : ℕ). flat_map F (between a m)) e)

  pub map_end : (f : ℕ → Head) (a i n : ℕ) (p q : Place) → i ≡ n → AreWhole g nest R bytes p (map f (between a i)) q → AreWhole g nest R bytes p (map f (between a n)) q
  map_end f a i n p q e x = whole_as x (ap (λ (m : ℕ). map f (between a m)) e)

  -- no heads
  pub none_whole : (p : Place) (hs : List Head) → p.byte ≤ length bytes → hs ≡ [] → AreWhole g nest R bytes p hs p
  none_whole p hs h e = whole_as (whole_none p h) (sym e)
