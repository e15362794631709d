-- The fifteen rules of a well-formed sheet.
use Rattle.std.specs.Prelude.{◌⊎◌, ⊤, ℕ}
use Rattle.xs_sheet.specs.declared.sheet.Sheet.{Sheet}
use Rattle.xs_sheet.specs.declared.unit.Unit.{Unit}
use Rattle.xs_pair.specs.declared.ill.Ill.{Ill}
use Rattle.xs_pair.specs.declared.ill.IllRule.{IllRule}
use Rattle.xs_pair.specs.declared.ill.IllRule.TheVariants.{Twice, Undefined, NoStart, NameOnce, Kind, AttrTwice, RootShape, EmptyClass, NotChar, Normal, Unproductive, Loop, FenceChar, FenceInside, FenceOpen}
use Rattle.xs_pair.specs.declared.production.Rule.{Rule}
use Rattle.xs_pair.specs.Units.{unit_line}
use Rattle.xs_pair.specs.Listing.{rules_of}
use Rattle.xs_pair.specs.Fences.{FenceFails}
use Rattle.xs_pair.specs.Verdict.{FailsAt, IsLineWhere, NoneFails, IsFirstIll}
use Rattle.xs_wf.specs.declared.well.WfFault.{WfFault}
use Rattle.xs_wf.specs.declared.well.WfFault.TheVariants as F
use Rattle.xs_wf.specs.Units.{IsEmptyUnit, IsStrangeUnit, IsUnmatchedUnit, IsStrangeRule}
use Rattle.xs_wf.specs.Nonterminals.{IsUnproductive, IsLooping, FailsAmongNons}

-- the line of a unit of which P holds
abbrev pub FailsAmongUnits : Sheet → (Unit → Type 0) → ℕ → Type 0
FailsAmongUnits s P line = IsLineWhere (λ k u. P u) unit_line s.units line

-- the line of a production of which P holds
abbrev pub FailsAmongRules : Sheet → (Rule → Type 0) → ℕ → Type 0
FailsAmongRules s P line = IsLineWhere (λ k r. P r) (λ (r : Rule). r.line) (rules_of s.units) line

-- the rule fails at the line
abbrev pub Fails : Sheet → IllRule → ℕ → Type 0
Fails s Twice line = FailsAt s Twice line
Fails s Undefined line = FailsAt s Undefined line
Fails s NoStart line = FailsAt s NoStart line
Fails s NameOnce line = FailsAt s NameOnce line
Fails s Kind line = FailsAt s Kind line
Fails s AttrTwice line = FailsAt s AttrTwice line
Fails s RootShape line = FailsAt s RootShape line
Fails s EmptyClass line = FailsAmongUnits s IsEmptyUnit line
Fails s NotChar line = FailsAmongUnits s IsStrangeUnit line ⊎ FailsAmongRules s IsStrangeRule line
Fails s Normal line = FailsAmongUnits s IsUnmatchedUnit line
Fails s Unproductive line = FailsAmongNons IsUnproductive s line
Fails s Loop line = FailsAmongNons IsLooping s line
Fails s FenceChar line = FenceFails s.units FenceChar line
Fails s FenceInside line = FenceFails s.units FenceInside line
Fails s FenceOpen line = FenceFails s.units FenceOpen line

-- no rule fails
abbrev pub IsWell : Sheet → Type 0
IsWell s = NoneFails (Fails s)

-- the first rule that fails, at the least line at which it does
abbrev pub IsIll : Sheet → Ill → Type 0
IsIll s ill = IsFirstIll (Fails s) ill

-- what a refusal says of the sheet
abbrev pub IsRefusal : Sheet → WfFault → Type 0
IsRefusal s (F.Ill ill) = IsIll s ill
IsRefusal s F.Memory = ⊤
