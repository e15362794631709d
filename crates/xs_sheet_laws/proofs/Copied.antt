-- A sheet with copies of its units is like the sheet.
use Rattle.std.proofs.Common.{◌≡◌, ◌∙◌, sym, ap, subst, ℕ, inl, inr, List, [], ◌∷◌, ◌++◌, map, refl, arith}
use Rattle.xs_sheet.specs.declared.unit.Unit.{Unit}
use Rattle.xs_sheet.specs.declared.unit.Unit.TheVariants.{Terminal, Ignorable, Production, Fence}
use Rattle.xs_sheet.specs.declared.sheet.Sheet.{Sheet}
use Rattle.xs_sheet.specs.Outline.{unit_outline}
use Rattle.xs_sheet.specs.Grammar.{IsVersion, AllMayStand, HaveRegexes}
use Rattle.xs_pair.specs.Fences.{fence_pairs}
use Rattle.xs_pair.specs.Upgrades.{AreCopies, fence_of}
use Rattle.xs_sheet_laws.specs.Sheets.{AreAlike}
use Rattle.xs_sheet_laws.proofs.Sheets.{units_alike}

-- the sheet with these units
abbrev pub with_units : Sheet → List Unit → Sheet
with_units s us = record { version = s.version; start = s.start; start_line = s.start_line; units = us }

pub copy_alike : (s : Sheet) (us : List Unit) → HaveRegexes s.units → AreCopies s.units us → AreAlike s (with_units s us)
copy_alike s us regexes copies = record { version = refl; start = refl; start_line = refl; units = units_alike s.units us (sym copies.outlines) regexes copies.regexes }

-- in version 1 there is no fence
version_1 : (v : ℕ) → IsVersion v → (v ≡ 2 → ⊥) → v ≡ 1
version_1 v (inl one) not_two = one
version_1 v (inr two) not_two = absurd (not_two two)

one_two : ◌≡◌ {A = ℕ} 1 2 → ⊥
one_two e = omega (arith, e)

none_of : (us : List Unit) → AllMayStand 1 (map unit_outline us) → fence_pairs us ≡ []
none_of [] may = refl
none_of (Terminal n p r l ∷ us) may = none_of us may.1
none_of (Ignorable n p r m l ∷ us) may = none_of us may.1
none_of (Production n a b l ∷ us) may = none_of us may.1
none_of (Fence a b l ∷ us) may = absurd (one_two may.0)

pub no_fences : (version : ℕ) (us : List Unit) → IsVersion version → AllMayStand version (map unit_outline us) → (version ≡ 2 → ⊥) → fence_pairs us ≡ []
no_fences version us is may not_two = none_of us (subst (λ (v : ℕ). AllMayStand v (map unit_outline us)) (version_1 version is not_two) may)

-- the sheet as one of version 2, with fences after its units
abbrev pub with_pairs : Sheet → ℕ → List (ℕ × ℕ) → Sheet
with_pairs s line fs = record { version = 2; start = s.start; start_line = s.start_line; units = s.units ++ map (fence_of line) fs }

-- a sheet by its parts
pub by_parts : (s t : Sheet) → s.version ≡ t.version → s.start ≡ t.start → s.start_line ≡ t.start_line → s.units ≡ t.units → s ≡ t
by_parts s t version start line units =
    ap (λ (v : ℕ). let x : Sheet = record { version = v; start = s.start; start_line = s.start_line; units = s.units } in x) version ∙ ap (λ (n : List ℕ). let x : Sheet = record { version = t.version; start = n; start_line = s.start_line; units = s.units } in x) start ∙ ap (λ (l : ℕ). let x : Sheet = record { version = t.version; start = t.start; start_line = l; units = s.units } in x) line ∙ ap (λ (us : List Unit). let x : Sheet = record { version = t.version; start = t.start; start_line = t.start_line; units = us } in x) units
