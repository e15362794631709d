-- Turns: the symbols at which classes begin and end.
use Rattle.std.specs.Prelude.{◌≡◌, ◌==◌, ◌&&◌, ◌↔◌, ℕ, zero, suc, ◌+◌, ◌<◌, Bool, false, not, nat_le, List, [], ◌∷◌, ◌++◌, sum_by, slice_get, Option, None, Some, IsTrue, if◌then◌else◌}
use Rattle.xs_class.specs.Classes.{Has, IsClass}
use Rattle.xs_atoms.specs.declared.turns.Turn.{Turn}

abbrev pub odd : ℕ → Bool
odd zero = false
odd (suc n) = not (odd n)

abbrev pub is_of : ℕ → Option ℕ → Bool
is_of c None = false
is_of c (Some n) = n == c

-- 1 for a turn of class c
abbrev pub of_class : ℕ → Turn → ℕ
of_class c t = if is_of c t.class then 1 else 0

-- 1 for a turn of class c at a symbol or before it
abbrev pub flip : ℕ → ℕ → Turn → ℕ
flip c s t = if is_of c t.class && nat_le t.place s then 1 else 0

-- how often class c turns up to a symbol
abbrev pub flips : ℕ → ℕ → List Turn → ℕ
flips c s ts = sum_by (flip c s) ts

-- 1 for a turn at the symbol
abbrev pub at_symbol : ℕ → Turn → ℕ
at_symbol s t = if t.place == s then 1 else 0

-- the turns of ranges of a class
abbrev pub range_turns : Option ℕ → List (ℕ × ℕ) → List Turn
range_turns class [] = []
range_turns class (r ∷ rs) = record { place = r.0; class = class } ∷ record { place = r.1 + 1; class = class } ∷ range_turns class rs

-- the turns of classes that are numbered from n on
abbrev pub class_turns : ℕ → List (List (ℕ × ℕ)) → List Turn
class_turns n [] = []
class_turns n (class ∷ classes) = range_turns (Some n) class ++ class_turns (n + 1) classes

-- each is a class
abbrev pub AreClasses : List (List (ℕ × ℕ)) → Type 0
AreClasses classes = (c : ℕ) (class : List (ℕ × ℕ)) → slice_get classes c ≡ Some class → IsClass class

-- Turns in any order: a class has a symbol where it turned an odd number of times up to it, and there
-- is a turn at each symbol that is to be kept apart.
pub record AreTurnsOf (classes : List (List (ℕ × ℕ))) (fixed : List (ℕ × ℕ)) (turns : List Turn) : Type 0 where
  pub members : (c s : ℕ) (class : List (ℕ × ℕ)) → slice_get classes c ≡ Some class → IsTrue (odd (flips c s turns)) ↔ Has class s
  pub kept : (s : ℕ) → Has fixed s → ((r : ℕ × ℕ) → (i : ℕ) → slice_get fixed i ≡ Some r → r.0 ≡ r.1) → 0 < sum_by (at_symbol s) turns

-- there is a turn at the symbol
abbrev pub HasTurnAt : List Turn → ℕ → Type 0
HasTurnAt ts s = (i : ℕ) × (t : Turn) × (slice_get ts i ≡ Some t) × (t.place ≡ s)

-- there is a turn at each symbol of class 0
abbrev pub AreKept : List Turn → Type 0
AreKept ts = (s : ℕ) → IsTrue (odd (flips 0 s ts)) → HasTurnAt ts s
