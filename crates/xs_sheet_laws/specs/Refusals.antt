-- A sheet is refused in one way: the laws of a refusal's place, rule, line, weight and suspect.
use Rattle.std.specs.Prelude.{◌≡◌, ℕ, List, []}
use Rattle.xs_gram.specs.Grammar.{Grammar}
use Rattle.xs_gram.specs.Fences.{fence_symbols}
use Rattle.xs_gram.specs.Laws.{IsDistinct}
use Rattle.xs_check_laws.specs.Acceptance.{IsFirstHeavy, Suspect, vertical, horizontal, IsFirstSuspect}
use Rattle.xs_sheet.specs.Grammar.{IsSheetBrokenAt}
use Rattle.xs_sheet.specs.declared.sheet.Sheet.{Sheet}
use Rattle.xs_pair.specs.declared.ill.Ill.{Ill}
use Rattle.xs_wf.specs.Rules.{IsIll}

-- no bytes are broken at two places
abbrev pub BrokenOnce : Type 0
BrokenOnce = (bytes : List ℕ) (a b : ℕ) → IsSheetBrokenAt bytes a → IsSheetBrokenAt bytes b → a ≡ b

-- one rule fails first, and at one line
abbrev pub IllOnce : Type 0
IllOnce = (s : Sheet) (i j : Ill) → IsIll s i → IsIll s j → i ≡ j

-- the first heavy rule has one weight
abbrev pub HeavyOnce : Type 0
HeavyOnce =
    (text xml : Grammar) → IsDistinct (fence_symbols text.fences) → IsDistinct (fence_symbols xml.fences)
    → (v w : ℕ) → IsFirstHeavy text xml v → IsFirstHeavy text xml w → v ≡ w

-- a suspect without its words: its side, with its two rules, or with its rule and cut
abbrev pub site_of : Suspect → Suspect
site_of (vertical side p q w) = vertical side p q []
site_of (horizontal side p c x a y) = horizontal side p c [] [] []

-- the first suspect stands at one site
abbrev pub SuspectOnce : Type 0
SuspectOnce = (text xml : Grammar) (s t : Suspect) → IsFirstSuspect text xml s → IsFirstSuspect text xml t → site_of s ≡ site_of t
