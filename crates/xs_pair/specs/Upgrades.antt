-- The upgrade of a sheet to version 2: the fences that it can have.
use Rattle.std.specs.Prelude.{◌≡◌, ◌⊎◌, ℕ, Bool, true, ◌||◌, List, [], ◌∷◌, ◌++◌, map}
use Rattle.std.specs.List.{flat_map}
use Rattle.xs_sheet.specs.declared.unit.Unit.{Unit}
use Rattle.xs_sheet.specs.declared.unit.Unit.TheVariants.{Terminal, Ignorable, Production, Fence}
use Rattle.xs_sheet.specs.declared.sheet.Sheet.{Sheet}
use Rattle.xs_sheet.specs.Outline.{unit_outline}
use Rattle.xs_sheet.specs.Grammar.{HaveRegexes}
use Rattle.xs_pair.specs.Fences.{is_one_of, side_letters, FenceFails}
use Rattle.xs_pair.specs.Verdict.{NoneFails}

-- the pairs that are tried, in this order: ( ), [ ], { }, < >
abbrev pub brackets : List (ℕ × ℕ)
brackets = (40, 41) ∷ (91, 93) ∷ (123, 125) ∷ (60, 62) ∷ []

-- the fence of a pair, on this line
abbrev pub fence_of : ℕ → ℕ × ℕ → Unit
fence_of line f = Fence (f.0 ∷ []) (f.1 ∷ []) line

-- the characters of the strings of all text sides, in order
abbrev pub left_letters : Unit → List ℕ
left_letters (Terminal name pattern regex line) = []
left_letters (Ignorable name pattern regex normal line) = []
left_letters (Production name left right line) = side_letters left
left_letters (Fence left right line) = []

abbrev pub text_letters : List Unit → List ℕ
text_letters us = flat_map left_letters us

-- one of the two characters stands in a text side
abbrev pub is_there : List Unit → ℕ × ℕ → Bool
is_there us f = is_one_of (text_letters us) f.0 || is_one_of (text_letters us) f.1

-- the pair can be a fence: one of its characters stands in a text side, and none of the three rules on
-- fences fails of the units with its fence after them
abbrev pub CanGain : ℕ → ℕ × ℕ → List Unit → Type 0
CanGain line f us = (is_there us f ≡ true) × NoneFails (FenceFails (us ++ fence_of line f ∷ []))

-- a pair is tried: its fence is added after the units exactly where it can be one
abbrev pub IsTried : ℕ → ℕ × ℕ → List Unit → List Unit → Type 0
IsTried line f us vs = (CanGain line f us × (vs ≡ us ++ fence_of line f ∷ [])) ⊎ ((CanGain line f us → ⊥) × (vs ≡ us))

-- pairs are tried one after the other, each with those added before it
abbrev pub AreTried : ℕ → List (ℕ × ℕ) → List Unit → List Unit → Type 0
AreTried line [] us vs = vs ≡ us
AreTried line (f ∷ fs) us vs = (mid : List Unit) × IsTried line f us mid × AreTried line fs mid vs

-- the same units once more: their regular expressions are those of the same patterns, and may be held
-- in another way
pub record AreCopies (us vs : List Unit) : Type 0 where
  pub outlines : map unit_outline vs ≡ map unit_outline us
  pub regexes : HaveRegexes vs

-- in version 2 nothing is added; else the brackets are tried, and their fences have the line of the start
abbrev pub AreFenced : Sheet → List Unit → List Unit → Type 0
AreFenced s us vs = ((s.version ≡ 2) × (vs ≡ us)) ⊎ ((s.version ≡ 2 → ⊥) × AreTried s.start_line brackets us vs)

-- the units of the sheet, and the fences that it gains after them
pub record AreUpgraded (s : Sheet) (vs : List Unit) : Type 0 where
  pub units : List Unit
  pub copies : AreCopies s.units units
  pub fenced : AreFenced s units vs

-- The upgrade of a sheet. One of version 2 is itself; one of version 1 becomes one of version 2 that has its
-- start and its units in order, and the fences that it can have after them.
pub record IsUpgrade (s t : Sheet) : Type 0 where
  pub version : t.version ≡ 2
  pub start : t.start ≡ s.start
  pub start_line : t.start_line ≡ s.start_line
  pub units : AreUpgraded s t.units
