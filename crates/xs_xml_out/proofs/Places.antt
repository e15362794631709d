-- Where a name stands among ordered names.
use Rattle.std.proofs.Common.{◌≡◌, ℕ, suc, zero, ◌<◌, List, [], ◌∷◌, length, get_or, Some, Bool, true, false, cond, refl, ap, subst, arith}
use Rattle.std.specs.Prelude.{bytes_eq}
use Rattle.std.specs.Option.{option_map}
use Rattle.std.specs.Cmp.Lexicographic.{bytes_decides}
use Rattle.xs_class.specs.Ordered.{IsBefore, IsOrdered, place_of}
use Rattle.xs_xml_laws.specs.Piece.{same}
use Rattle.xs_xml_out.specs.Written.{name_at}
use Rattle.xs_xml_laws.proofs.Reading.{same_is}
use Rattle.xs_class.proofs.Places.{IsBefore_not_itself}

-- a place at which the name stands, and before which it does not, is the one found
found : (ns : List (List ℕ)) (name : List ℕ) (k : ℕ) → k < length ns → get_or ns k [] ≡ name → ((j : ℕ) → j < k → get_or ns j [] ≡ name → ⊥) → place_of ns name ≡ Some k
found [] name k below is first = absurd (omega arith)
found (n ∷ ns) name zero below is first = rw ((bytes_decides n name).1 is) refl
found (n ∷ ns) name (suc k) below is first =
    let rest : place_of ns name ≡ Some k = found ns name k (omega arith) is (λ j l at. first (suc j) (omega arith) at) in
    by_test (bytes_eq n name) refl rest
  where
    by_test : (b : Bool) → bytes_eq n name ≡ b → place_of ns name ≡ Some k → cond b (Some 0) (option_map suc (place_of ns name)) ≡ Some (suc k)
    by_test true t rest = absurd (first 0 (omega arith) ((bytes_decides n name).0 t))
    by_test false t rest = ap (option_map suc) rest

-- names in order differ
not_same : (m n : List ℕ) → IsBefore m n → same m n ≡ false
not_same m n before = by (same m n) refl
  where
    by : (t : Bool) → same m n ≡ t → t ≡ false
    by true e = absurd (IsBefore_not_itself n (subst (λ x. IsBefore x n) (same_is m n e) before))
    by false e = refl

module _ (names : List (List ℕ)) (ordered : IsOrdered names) where
  pub name_before : (k l : ℕ) → k < l → l < length names → IsBefore (name_at names k) (name_at names l)
  name_before k l lower below = ordered k l [] lower below

  pub names_apart : (k l : ℕ) → k < l → l < length names → same (name_at names k) (name_at names l) ≡ false
  names_apart k l lower below = not_same (name_at names k) (name_at names l) (name_before k l lower below)

  pub place_of-name_at : (k : ℕ) → k < length names → place_of names (name_at names k) ≡ Some k
  place_of-name_at k below = found names (name_at names k) k below refl (λ j lower at. IsBefore_not_itself (name_at names k) (subst (λ x. IsBefore x (name_at names k)) at (name_before j k lower below)))
