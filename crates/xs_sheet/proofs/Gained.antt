-- A sheet that was read may be written with fences after its units, as a sheet of version 2.
use Rattle.std.proofs.Common.{◌≡◌, ℕ, true, inr, List, [], ◌∷◌, ◌++◌, map, refl, sym, ap, ◌∙◌, subst}
use Rattle.std.specs.Bool.{⊤}
use Rattle.std.specs.Str.{all_scalars}
use Rattle.xs_sheet.specs.declared.sheet.Sheet.{Sheet}
use Rattle.xs_sheet.specs.Outline.{UnitOutline, terminal, ignorable, production, fence, unit_outline}
use Rattle.xs_sheet.specs.Pieces.{is_reserved}
use Rattle.xs_sheet.specs.Grammar.{MayStand, AllMayStand, HaveRegexes, IsSheetOf}
use Rattle.xs_sheet.specs.Layout.{sheet_bytes}
use Rattle.xs_sheet.specs.Lines.{laid_out, IsReadable}
use Rattle.xs_lex.specs.Classes.{is_plain}
use Rattle.xs_sheet.proofs.Renewed.{UnitsAgain, fence_again, again-append}
use Rattle.xs_sheet.proofs.ReadBack.{CanBeSpelled, can_be_spelled, spelled_is_read, laid_out_same}

-- fences of texts of scalar values
abbrev pub AreSpelledFences : List UnitOutline → Type 0
AreSpelledFences [] = ⊤
AreSpelledFences (fence left right line ∷ us) = (all_scalars left ≡ true) × (all_scalars right ≡ true) × AreSpelledFences us
AreSpelledFences (terminal name pattern line ∷ us) = ⊥
AreSpelledFences (ignorable name pattern normal line ∷ us) = ⊥
AreSpelledFences (production name left right line ∷ us) = ⊥

fences_again : (us : List UnitOutline) → AreSpelledFences us → UnitsAgain us
fences_again [] are = tt
fences_again (fence left right line ∷ us) are = ((fence_again left right line are.0 are.1).0, fences_again us are.2)
fences_again (terminal name pattern line ∷ us) are = absurd are
fences_again (ignorable name pattern normal line ∷ us) are = absurd are
fences_again (production name left right line ∷ us) are = absurd are

-- in version 2 each unit may stand
may_stand : (u : UnitOutline) → MayStand 2 u
may_stand (terminal name pattern line) = tt
may_stand (ignorable name pattern normal line) = tt
may_stand (production name left right line) = tt
may_stand (fence left right line) = refl

all_may : (us : List UnitOutline) → AllMayStand 2 us
all_may [] = tt
all_may (u ∷ us) = (may_stand u, all_may us)

pub gained_is_readable :
    (bytes : List ℕ) (s t : Sheet) (fences : List UnitOutline) → IsSheetOf bytes s → AreSpelledFences fences → t.version ≡ 2 → t.start ≡ s.start
    → map unit_outline t.units ≡ map unit_outline s.units ++ fences → HaveRegexes t.units → IsReadable t
gained_is_readable bytes s t fences sheet are version start units regexes =
    let old = can_be_spelled bytes s sheet in
    let can : CanBeSpelled t = record {
      version = inr version;
      start = ap is_plain start ∙ old.start;
      free = ap is_reserved start ∙ old.free;
      scalars = ap all_scalars start ∙ old.scalars;
      units = subst (λ (us : List UnitOutline). UnitsAgain us) (sym units) (again-append (map unit_outline s.units) fences old.units (fences_again fences are));
      may = subst (λ (v : ℕ). AllMayStand v (map unit_outline t.units)) (sym version) (all_may (map unit_outline t.units));
      regexes = regexes;
    } in
    record { bytes = sheet_bytes t; read = laid_out t; is = spelled_is_read t can; same = laid_out_same t }
