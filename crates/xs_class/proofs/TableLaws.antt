-- The tests by tables answer as the tables do.
use Rattle.std.proofs.Common.{nat_le, ◌≤◌, ◌⊎◌, inl, inr, List, [], ◌∷◌, ◌≡◌, ℕ, true, false, Bool, ◌&&◌, ◌||◌, refl}
use Rattle.xs_class.specs.Classes.{Has}
use Rattle.xs_class.specs.Tables.{in_ranges}
use Rattle.xs_class.proofs.Truth.{and_true, or_right, le_is, le_true}

pub in_is : (c : ℕ) (rs : List (ℕ × ℕ)) → in_ranges c rs ≡ true → Has rs c
in_is c [] is = absurd (cc)
in_is c (r ∷ rs) is = by (nat_le r.0 c && nat_le c r.1) refl is (in_is c rs)
  where
    by : (t : Bool) → (nat_le r.0 c && nat_le c r.1) ≡ t → (t || in_ranges c rs) ≡ true → (in_ranges c rs ≡ true → Has rs c) → ((r.0 ≤ c) × (c ≤ r.1)) ⊎ Has rs c
    by true e h again = let p = and_true (nat_le r.0 c) (nat_le c r.1) e in inl (le_is r.0 c p.0, le_is c r.1 p.1)
    by false e h again = inr (again h)

pub is_in : (c : ℕ) (rs : List (ℕ × ℕ)) → Has rs c → in_ranges c rs ≡ true
is_in c [] has = absurd has
is_in c (r ∷ rs) (inl h) = rw (le_true r.0 c h.0, le_true c r.1 h.1) refl
is_in c (r ∷ rs) (inr h) = or_right (nat_le r.0 c && nat_le c r.1) (in_ranges c rs) (is_in c rs h)
