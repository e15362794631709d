-- The test of balance says exactly whether fence characters are balanced.
use Rattle.std.proofs.Common.{◌≡◌, ◌∙◌, ap, sym, refl, arith, length, ℕ, List, [], ◌∷◌, ◌++◌, append-nil, append_assoc, Some, None, Bool, true, false, not, ◌||◌, ◌==◌, if◌then◌else◌, reverse, eqb-true, inl, inr, ◌⊎◌}
use Rattle.std.specs.Prelude.{IsTrue, ◌↔◌}
use Rattle.std.specs.declared.option.Option.{Option}
use Rattle.std.proofs.lemmas.List.{reverse-append}
use Rattle.xs_class.proofs.Truth.{eq_self, or_false}
use Rattle.xs_gram.specs.Fences.{is_left, is_right, is_fence}
use Rattle.xs_sheet.specs.declared.unit.Unit.{Unit}
use Rattle.xs_sheet.specs.declared.unit.Unit.TheVariants.{Terminal, Ignorable, Production, Fence}
use Rattle.xs_pair.specs.Fences.{IsPair, IsBalanced, balanced_none, balanced_then, balanced_group, IsOpen, side_letters}
use Rattle.xs_pair.specs.Balance.{right_of, closed, stepped, step, goes_on, closes, AreApart}
use Rattle.xs_pair.proofs.Decided.{yes, no}

-- the last of the awaited ones is the innermost
pub closed_last : (old new : List ℕ) (r c : ℕ) → old ≡ new ++ r ∷ [] → closed (reverse old) c ≡ (if r == c then Some (reverse new) else None)
closed_last old new r c is = ap (λ (z : List ℕ). closed z c) (ap reverse is ∙ reverse-append new (r ∷ []))

-- pairs and tests
pub pair_found : (fs : List (ℕ × ℕ)) (c r : ℕ) → right_of fs c ≡ Some r → IsPair fs c r
pair_found [] c r e = cc
pair_found (f ∷ fs) c r e = by (f.0 == c) refl e (λ rest. pair_found fs c r rest)
  where
    by : (t : Bool) → (f.0 == c) ≡ t → (if t then Some f.1 else right_of fs c) ≡ Some r → (right_of fs c ≡ Some r → IsPair fs c r) → ((f.0 ≡ c) × (f.1 ≡ r)) ⊎ IsPair fs c r
    by true is e later = inl (eqb-true f.0 c is, same f.1 r e)
      where
        same : (a b : ℕ) → Some a ≡ Some b → a ≡ b
        same a b e = cc
    by false is e later = inr (later e)

pub no_left : (fs : List (ℕ × ℕ)) (c : ℕ) → right_of fs c ≡ None → is_left fs c ≡ false
no_left [] c e = refl
no_left (f ∷ fs) c e = by (f.0 == c) e (λ rest. no_left fs c rest)
  where
    by : (t : Bool) → (if t then Some f.1 else right_of fs c) ≡ None → (right_of fs c ≡ None → is_left fs c ≡ false) → (t || is_left fs c) ≡ false
    by true e rest = absurd (some_none f.1 e)
      where
        some_none : (a : ℕ) → Some a ≡ None → ⊥
        some_none a e = cc
    by false e rest = rest e

none_right : (fs : List (ℕ × ℕ)) (c : ℕ) → is_left fs c ≡ false → right_of fs c ≡ None
none_right [] c e = refl
none_right (f ∷ fs) c e = by (f.0 == c) e (λ rest. none_right fs c rest)
  where
    by : (t : Bool) → (t || is_left fs c) ≡ false → (is_left fs c ≡ false → right_of fs c ≡ None) → (if t then Some f.1 else right_of fs c) ≡ None
    by true e rest = absurd (bad e)
      where
        bad : true ≡ false → ⊥
        bad e = cc
    by false e rest = rest e

right_there : (fs : List (ℕ × ℕ)) (l r : ℕ) → IsPair fs l r → is_right fs r ≡ true
right_there [] l r p = absurd p
right_there (f ∷ fs) l r (inl is) = ap (λ (z : ℕ). (z == r) || is_right fs r) is.1 ∙ ap (λ (t : Bool). t || is_right fs r) (eq_self r)
right_there (f ∷ fs) l r (inr p) = ap (λ (t : Bool). (f.1 == r) || t) (right_there fs l r p) ∙ or_true (f.1 == r)
  where
    or_true : (t : Bool) → (t || true) ≡ true
    or_true true = refl
    or_true false = refl

-- the word closes what is awaited: balanced words before each, and after the last
abbrev Ends : List (ℕ × ℕ) → List ℕ → List ℕ → Type 0
Ends fs [] w = IsBalanced fs w
Ends fs (r ∷ awaited) w = (u : List ℕ) × (v : List ℕ) × (w ≡ u ++ r ∷ v) × IsBalanced fs u × Ends fs awaited v

ends_open : (fs : List (ℕ × ℕ)) (l r : ℕ) (awaited w : List ℕ) → IsPair fs l r → Ends fs (r ∷ awaited) w → Ends fs awaited (l ∷ w)
ends_open fs l r [] w pair e = balanced_group l r pair e.3 e.4 (ap (λ (z : List ℕ). l ∷ z) e.2)
ends_open fs l r (q ∷ awaited) w pair e =
    let rest = e.4 in
    (l ∷ (e.0 ++ r ∷ rest.0), rest.1, ap (λ (z : List ℕ). l ∷ z) (e.2 ∙ ap (λ (z : List ℕ). e.0 ++ r ∷ z) rest.2 ∙ sym (append_assoc e.0 (r ∷ rest.0) (q ∷ rest.1))), balanced_group l r pair e.3 rest.3 refl, rest.4)

ends_other : (fs : List (ℕ × ℕ)) (c : ℕ) (awaited w : List ℕ) → is_fence fs c ≡ false → Ends fs awaited w → Ends fs awaited (c ∷ w)
ends_other fs c [] w plain e = balanced_then plain e
ends_other fs c (q ∷ awaited) w plain e = (c ∷ e.0, e.1, ap (λ (z : List ℕ). c ∷ z) e.2, balanced_then plain e.3, e.4)

closes_sound : (fs : List (ℕ × ℕ)) (w awaited : List ℕ) → closes fs w awaited ≡ true → Ends fs awaited w
closes_sound fs [] [] e = balanced_none
closes_sound fs [] (r ∷ awaited) e = absurd (bad e)
  where
    bad : false ≡ true → ⊥
    bad e = cc
closes_sound fs (c ∷ w) awaited e = by awaited (right_of fs c) (is_right fs c) refl refl e (λ more h. closes_sound fs w more h)
  where
    bad : false ≡ true → ⊥
    bad e = cc

    shut : (r : ℕ) (rest : List ℕ) (t : Bool) → (r == c) ≡ t → goes_on (if t then Some rest else None) (λ more. closes fs w more) ≡ true → ((more : List ℕ) → closes fs w more ≡ true → Ends fs more w) → Ends fs (r ∷ rest) (c ∷ w)
    shut r rest true is h again = ([], w, ap (λ (z : ℕ). z ∷ w) (sym (eqb-true r c is)), balanced_none, again rest h)
    shut r rest false is h again = absurd (bad h)

    by : (awaited : List ℕ) (o : Option ℕ) (t : Bool) → right_of fs c ≡ o → is_right fs c ≡ t → goes_on (stepped awaited c o t) (λ more. closes fs w more) ≡ true → ((more : List ℕ) → closes fs w more ≡ true → Ends fs more w) → Ends fs awaited (c ∷ w)
    by awaited (Some r) t is right h again = ends_open fs c r awaited w (pair_found fs c r is) (again (r ∷ awaited) h)
    by [] None true is right h again = absurd (bad h)
    by (r ∷ rest) None true is right h again = shut r rest (r == c) refl h again
    by awaited None false is right h again = ends_other fs c awaited w (ap (λ (t : Bool). t || is_right fs c) (no_left fs c is) ∙ right) (again awaited h)

-- after a balanced word the same is awaited as before it
pub next_is : (fs : List (ℕ × ℕ)) (w awaited more : List ℕ) (c : ℕ) → step fs awaited c ≡ Some more → closes fs (c ∷ w) awaited ≡ closes fs w more
next_is fs w awaited more c is = ap (λ (o : Option (List ℕ)). goes_on o (λ more. closes fs w more)) is

pub plain_step : (fs : List (ℕ × ℕ)) (awaited : List ℕ) (c : ℕ) → is_fence fs c ≡ false → step fs awaited c ≡ Some awaited
plain_step fs awaited c plain =
    let both = or_false (is_left fs c) (is_right fs c) plain in
    ap (λ (o : Option ℕ). stepped awaited c o (is_right fs c)) (none_right fs c both.0) ∙ ap (λ (t : Bool). stepped awaited c None t) both.1

left_step : (fs : List (ℕ × ℕ)) (awaited : List ℕ) (l r : ℕ) → AreApart fs → IsPair fs l r → step fs awaited l ≡ Some (r ∷ awaited)
left_step fs awaited l r apart pair = ap (λ (o : Option ℕ). stepped awaited l o (is_right fs l)) (apart.right l r pair)

right_step : (fs : List (ℕ × ℕ)) (awaited : List ℕ) (l r : ℕ) → AreApart fs → IsPair fs l r → step fs (r ∷ awaited) r ≡ Some awaited
right_step fs awaited l r apart pair =
    ap (λ (o : Option ℕ). stepped (r ∷ awaited) r o (is_right fs r)) (apart.apart l r pair) ∙ ap (λ (t : Bool). stepped (r ∷ awaited) r None t) (right_there fs l r pair) ∙ ap (λ (t : Bool). if t then Some awaited else None) (eq_self r)

regroup : (l r : ℕ) (inside after u w : List ℕ) → u ≡ l ∷ (inside ++ r ∷ after) → u ++ w ≡ l ∷ (inside ++ r ∷ (after ++ w))
regroup l r inside after u w is = ap (λ (z : List ℕ). z ++ w) is ∙ ap (λ (z : List ℕ). l ∷ z) (append_assoc inside (r ∷ after) w)

closes_on : (fs : List (ℕ × ℕ)) (u : List ℕ) → AreApart fs → IsBalanced fs u → (w awaited : List ℕ) → closes fs (u ++ w) awaited ≡ closes fs w awaited
closes_on fs u apart balanced_none w awaited = refl
closes_on fs u apart (balanced_then {c} {w = rest} plain b) w awaited = next_is fs (rest ++ w) awaited awaited c (plain_step fs awaited c plain) ∙ closes_on fs rest apart b w awaited
closes_on fs u apart (balanced_group l r {inside = inside} {after = after} pair b d is) w awaited =
    ap (λ (z : List ℕ). closes fs z awaited) (regroup l r inside after u w is) ∙ next_is fs (inside ++ r ∷ (after ++ w)) awaited (r ∷ awaited) l (left_step fs awaited l r apart pair) ∙ closes_on fs inside apart b (r ∷ (after ++ w)) (r ∷ awaited) ∙ next_is fs (after ++ w) (r ∷ awaited) awaited r (right_step fs awaited l r apart pair) ∙ closes_on fs after apart d w awaited

pub balanced_closes : (fs : List (ℕ × ℕ)) (w : List ℕ) → AreApart fs → IsBalanced fs w → closes fs w [] ≡ true
balanced_closes fs w apart b = ap (λ (z : List ℕ). closes fs z []) (sym (append-nil w)) ∙ closes_on fs w apart b [] []

-- what the test says
pub balance_test : (t : Bool) (fs : List (ℕ × ℕ)) (w : List ℕ) → AreApart fs → t ≡ closes fs w [] → IsTrue (not t) ↔ (IsBalanced fs w → ⊥)
balance_test true fs w apart is = no (λ never. never (closes_sound fs w [] (sym is)))
balance_test false fs w apart is = yes (λ b. bad (is ∙ balanced_closes fs w apart b))
  where
    bad : false ≡ true → ⊥
    bad e = cc

-- without fences all words are balanced, and no text side is open
all_balanced : (w : List ℕ) → IsBalanced [] w
all_balanced [] = balanced_none
all_balanced (c ∷ w) = balanced_then refl (all_balanced w)

pub none_open : (fs : List (ℕ × ℕ)) (u : Unit) → length fs ≡ 0 → IsOpen fs u → ⊥
none_open [] (Terminal name pattern regex line) none ill = ill
none_open [] (Ignorable name pattern regex normal line) none ill = ill
none_open [] (Production name left right line) none ill = ill (all_balanced (side_letters left))
none_open [] (Fence left right line) none ill = ill
none_open (f ∷ fs) u none ill = absurd (omega (arith, none))
