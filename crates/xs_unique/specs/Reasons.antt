-- Why two grammars are not accepted.
use Rattle.std.specs.Prelude.{◌≡◌}
use Rattle.xs_class.specs.declared.side.Side.{Side}
use Rattle.xs_gram.specs.declared.suspect.Suspect.{Suspect as Found}
use Rattle.xs_gram.specs.declared.suspect.Suspect.TheVariants.{Vertical, Horizontal}
use Rattle.xs_gram.specs.Grammar.{Grammar}
use Rattle.xs_check_laws.specs.Freedom.{HasNoVertical}
use Rattle.xs_check_laws.specs.Acceptance.{IsLight, IsFirstHeavy, ShowsVertical, ShowsHorizontal, Suspect, vertical, horizontal, Shows}
use Rattle.xs_searches.specs.declared.fault.CheckFault.{CheckFault}
use Rattle.xs_searches.specs.declared.fault.CheckFault.TheVariants as C
use Rattle.xs_unique.specs.declared.fault.AcceptFault.{AcceptFault}
use Rattle.xs_unique.specs.declared.fault.AcceptFault.TheVariants as F

-- the same fault of one grammar
abbrev pub fault_of : CheckFault → AcceptFault
fault_of (C.Heavy weight) = F.Heavy weight
fault_of C.Memory = F.Memory

-- a suspect that was found, as acceptance speaks of it
abbrev pub shown : Found → Suspect
shown (Vertical side rule rule2 word) = vertical side rule rule2 word
shown (Horizontal side rule cut x a y) = horizontal side rule cut x a y

-- it is the first suspect of the grammar, which is of this side
abbrev pub IsFirstOn : Side → Grammar → Found → Type 0
IsFirstOn side g (Vertical at rule rule2 word) = (at ≡ side) × ShowsVertical g rule rule2 word
IsFirstOn side g (Horizontal at rule cut x a y) = (at ≡ side) × HasNoVertical g × ShowsHorizontal g rule cut x a y

-- why the grammar of a side, whose rules are light, is not clear of suspects
abbrev pub IsUnclear : Side → Grammar → AcceptFault → Type 0
IsUnclear side g (F.Heavy weight) = ⊥
IsUnclear side g (F.Suspect found) = IsFirstOn side g found
IsUnclear side g F.Memory = Unit {0}

-- where the fault speaks of a weight, it is that of the first heavy rule; where it has a suspect,
-- no rule is heavy and it is the first
abbrev pub IsReason : Grammar → Grammar → AcceptFault → Type 0
IsReason text xml (F.Heavy weight) = IsFirstHeavy text xml weight
IsReason text xml (F.Suspect found) = IsLight text × IsLight xml × Shows text xml (shown found)
IsReason text xml F.Memory = Unit {0}
