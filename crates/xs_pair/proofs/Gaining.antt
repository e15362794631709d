-- What a sheet gains by an upgrade: fences of pairs that were tried, after its units; it can be written then.
use Rattle.std.proofs.Common.{◌≡◌, ◌∙◌, inl, inr, refl, sym, ap, subst, ℕ, true, false, List, [], ◌∷◌, ◌++◌, map, take, length, ◌-◌, append_assoc, append-nil, length-append, arith}
use Rattle.std.proofs.Math.Seq.{take-append_seam}
use Rattle.std.specs.Bool.{⊤}
use Rattle.std.specs.Str.{all_scalars}
use Rattle.std.proofs.lemmas.List.{map-append}
use Rattle.xs_class.proofs.Truth.{false_true}
use Rattle.xs_sheet.specs.declared.unit.Unit.{Unit}
use Rattle.xs_sheet.specs.declared.sheet.Sheet.{Sheet}
use Rattle.xs_sheet.specs.Outline.{UnitOutline, unit_outline}
use Rattle.xs_sheet.specs.Grammar.{HaveRegexes, IsSheetOf}
use Rattle.xs_sheet.specs.Lines.{IsReadable}
use Rattle.xs_sheet.proofs.Gained.{AreSpelledFences, gained_is_readable}
use Rattle.xs_sheet.proofs.ContentLaws.{regexes_push}
use Rattle.xs_pair.specs.declared.ill.Ill.{Ill}
use Rattle.xs_pair.specs.Fences.{FenceFails}
use Rattle.xs_pair.specs.Verdict.{NoneFails, IsFirstIll}
use Rattle.xs_pair.specs.Upgrades.{brackets, fence_of, is_there, IsTried, AreTried, AreFenced, IsUpgrade}

-- a pair that was tried: its fence is added, is refused by a rule, or is of no character in a text side
pub tried_added : (line : ℕ) (f : ℕ × ℕ) (us vs : List Unit) → is_there us f ≡ true → NoneFails (FenceFails vs) → vs ≡ us ++ fence_of line f ∷ [] → IsTried line f us vs
tried_added line f us vs there fine is = inl ((there, subst (λ (ws : List Unit). NoneFails (FenceFails ws)) is fine), is)

pub tried_refused : (line : ℕ) (f : ℕ × ℕ) (us vs new : List Unit) (ill : Ill) → IsFirstIll (FenceFails vs) ill → vs ≡ us ++ fence_of line f ∷ [] → new ≡ us → IsTried line f us new
tried_refused line f us vs new ill first is same = inr (λ can. can.1 ill.rule ill.line (subst (λ (ws : List Unit). FenceFails ws ill.rule ill.line) is first.line.fails), same)

-- what is left once the last one of the units is taken
pub left_over : (us vs new : List Unit) (u : Unit) (n : ℕ) → vs ≡ us ++ u ∷ [] → n ≡ length vs → new ≡ take (n - 1) vs → new ≡ us
left_over us vs new u n is long left =
    let short : n - 1 ≡ length us = omega (arith, long, ap (λ (ws : List Unit). length ws) is, length-append us (u ∷ [])) in
    left ∙ ap (λ (k : ℕ). take k vs) short ∙ ap (λ (ws : List Unit). take (length us) ws) is ∙ take-append_seam us (u ∷ [])

pub tried_absent : (line : ℕ) (f : ℕ × ℕ) (us : List Unit) → is_there us f ≡ false → IsTried line f us us
tried_absent line f us none = inr (λ can. false_true (sym none ∙ can.0), refl)

pub regexes_added : (line : ℕ) (f : ℕ × ℕ) (us vs : List Unit) → HaveRegexes us → vs ≡ us ++ fence_of line f ∷ [] → HaveRegexes vs
regexes_added line f us vs have is = subst (λ (ws : List Unit). HaveRegexes ws) (sym is) (regexes_push us (fence_of line f) have tt)

-- the two characters of each pair are scalar values
abbrev pub AreScalars : List (ℕ × ℕ) → Type 0
AreScalars [] = ⊤
AreScalars (f ∷ fs) = (all_scalars (f.0 ∷ []) ≡ true) × (all_scalars (f.1 ∷ []) ≡ true) × AreScalars fs

-- the units and the fences that are added after them
pub record Gained (line : ℕ) (us vs : List Unit) : Type 0 where
  pub pairs : List (ℕ × ℕ)
  pub scalars : AreScalars pairs
  pub is : vs ≡ us ++ map (fence_of line) pairs

none_gained : (line : ℕ) (us vs : List Unit) → vs ≡ us → Gained line us vs
none_gained line us vs same = record { pairs = []; scalars = tt; is = same ∙ sym (append-nil us) }

gained : (line : ℕ) (fs : List (ℕ × ℕ)) (us vs : List Unit) → AreScalars fs → AreTried line fs us vs → Gained line us vs
gained line [] us vs scalars same = none_gained line us vs same
gained line (f ∷ fs) us vs scalars (mid, inl (can, is), more) =
    let rest = gained line fs mid vs scalars.2 more in
    let after : List Unit = map (fence_of line) rest.pairs in
    record { pairs = f ∷ rest.pairs; scalars = (scalars.0, scalars.1, rest.scalars); is = rest.is ∙ ap (λ (ws : List Unit). ws ++ after) is ∙ append_assoc us (fence_of line f ∷ []) after }
gained line (f ∷ fs) us vs scalars (mid, inr (cannot, is), more) =
    let rest = gained line fs mid vs scalars.2 more in
    record { pairs = rest.pairs; scalars = rest.scalars; is = rest.is ∙ ap (λ (ws : List Unit). ws ++ map (fence_of line) rest.pairs) is }

bracket_scalars : AreScalars brackets
bracket_scalars = (refl, refl, (refl, refl, (refl, refl, (refl, refl, tt))))

pub upgrade_gained : (s : Sheet) (us vs : List Unit) → AreFenced s us vs → Gained s.start_line us vs
upgrade_gained s us vs (inl (two, is)) = none_gained s.start_line us vs is
upgrade_gained s us vs (inr (one, tried)) = gained s.start_line brackets us vs bracket_scalars tried

outlines : (line : ℕ) (fs : List (ℕ × ℕ)) → AreScalars fs → AreSpelledFences (map unit_outline (map (fence_of line) fs))
outlines line [] scalars = tt
outlines line (f ∷ fs) scalars = (scalars.0, scalars.1, outlines line fs scalars.2)

regexes : (line : ℕ) (us : List Unit) (fs : List (ℕ × ℕ)) → HaveRegexes us → HaveRegexes (us ++ map (fence_of line) fs)
regexes line [] [] have = tt
regexes line [] (f ∷ fs) have = (tt, regexes line [] fs have)
regexes line (u ∷ us) fs have = (have.0, regexes line us fs have.1)

-- the upgrade of a sheet that was read can be written
pub upgrade_readable : (bytes : List ℕ) (s t : Sheet) → IsSheetOf bytes s → IsUpgrade s t → IsReadable t
upgrade_readable bytes s t sheet up =
    let units : List Unit = up.units.units in
    let g = upgrade_gained s units t.units up.units.fenced in
    let added : List Unit = map (fence_of s.start_line) g.pairs in
    gained_is_readable bytes s t (map unit_outline added) sheet (outlines s.start_line g.pairs g.scalars) up.version up.start
    (ap (λ (us : List Unit). map unit_outline us) g.is ∙ map-append unit_outline units added ∙ ap (λ (os : List UnitOutline). os ++ map unit_outline added) up.units.copies.outlines)
    (subst (λ (us : List Unit). HaveRegexes us) (sym g.is) (regexes s.start_line units g.pairs up.units.copies.regexes))
