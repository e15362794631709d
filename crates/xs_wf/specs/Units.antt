-- What makes the rules on classes, characters and normal spellings fail.
use Rattle.std.specs.Prelude.{◌⊎◌, ⊤, ℕ, List, None, Some}
use Rattle.std.specs.declared.option.Option.{Option}
use Rattle.xs_class.specs.Tables.{IsChar}
use Rattle.xs_regex.specs.declared.regex.Regex.{Regex}
use Rattle.xs_regex.specs.Matches.{Matches}
use Rattle.xs_regex.specs.Meaning.{IsPatternOf}
use Rattle.xs_regex.specs.Size.{HasMembers}
use Rattle.xs_sheet.specs.declared.item.Item.{Item}
use Rattle.xs_sheet.specs.declared.item.Item.TheVariants as I
use Rattle.xs_sheet.specs.declared.unit.Unit.{Unit}
use Rattle.xs_sheet.specs.declared.unit.Unit.TheVariants.{Terminal, Ignorable, Production, Fence}
use Rattle.xs_gram.specs.Building.{EachOf}
use Rattle.xs_pair.specs.declared.ill.IllRule.{IllRule}
use Rattle.xs_pair.specs.declared.ill.IllRule.TheVariants.{Twice, Undefined, NoStart, NameOnce, Kind, AttrTwice, RootShape, EmptyClass, NotChar, Normal, Unproductive, Loop, FenceChar, FenceInside, FenceOpen}
use Rattle.xs_pair.specs.declared.mark.Mark.{Mark}
use Rattle.xs_pair.specs.declared.mark.Mark.TheVariants.{Opening, Attribute, AttributeEnd, Closing, Value, Content}
use Rattle.xs_pair.specs.declared.production.Rule.{Rule}
use Rattle.xs_pair.specs.Rules.{SomeOf}
use Rattle.xs_pair.specs.Verdict.{earlier}

-- a class in the pattern's regex has no member
abbrev pub HasEmptyClass : List ℕ → Type 0
HasEmptyClass pattern = (r : Regex) × IsPatternOf pattern r × (HasMembers r → ⊥)

-- the pattern's regex does not match the text
abbrev pub IsUnmatched : List ℕ → List ℕ → Type 0
IsUnmatched pattern text = (r : Regex) × IsPatternOf pattern r × (Matches r text → ⊥)

-- no character of XML
abbrev pub IsStrange : ℕ → Type 0
IsStrange c = IsChar c → ⊥

-- the text holds a character that XML does not have
abbrev pub HasStrange : List ℕ → Type 0
HasStrange text = SomeOf IsStrange text

-- the regex of a terminal or of an ignorable has a class without member
abbrev pub IsEmptyUnit : Unit → Type 0
IsEmptyUnit (Terminal name pattern regex line) = HasEmptyClass pattern
IsEmptyUnit (Ignorable name pattern regex normal line) = HasEmptyClass pattern
IsEmptyUnit (Production name left right line) = ⊥
IsEmptyUnit (Fence left right line) = ⊥

-- the normal spelling of an ignorable holds a character that XML does not have
abbrev pub IsStrangeUnit : Unit → Type 0
IsStrangeUnit (Terminal name pattern regex line) = ⊥
IsStrangeUnit (Ignorable name pattern regex normal line) = HasStrange normal
IsStrangeUnit (Production name left right line) = ⊥
IsStrangeUnit (Fence left right line) = ⊥

-- the regex of an ignorable does not match its normal spelling
abbrev pub IsUnmatchedUnit : Unit → Type 0
IsUnmatchedUnit (Terminal name pattern regex line) = ⊥
IsUnmatchedUnit (Ignorable name pattern regex normal line) = IsUnmatched pattern normal
IsUnmatchedUnit (Production name left right line) = ⊥
IsUnmatchedUnit (Fence left right line) = ⊥

-- a rule that speaks of single units fails at one
abbrev pub IsIllUnit : IllRule → Unit → Type 0
IsIllUnit Twice u = ⊥
IsIllUnit Undefined u = ⊥
IsIllUnit NoStart u = ⊥
IsIllUnit NameOnce u = ⊥
IsIllUnit Kind u = ⊥
IsIllUnit AttrTwice u = ⊥
IsIllUnit RootShape u = ⊥
IsIllUnit EmptyClass u = IsEmptyUnit u
IsIllUnit NotChar u = IsStrangeUnit u
IsIllUnit Normal u = IsUnmatchedUnit u
IsIllUnit Unproductive u = ⊥
IsIllUnit Loop u = ⊥
IsIllUnit FenceChar u = ⊥
IsIllUnit FenceInside u = ⊥
IsIllUnit FenceOpen u = ⊥

-- each class in the regex of a terminal or of an ignorable has a member
abbrev pub IsFullUnit : Unit → Type 0
IsFullUnit (Terminal name pattern regex line) = HasMembers regex
IsFullUnit (Ignorable name pattern regex normal line) = HasMembers regex
IsFullUnit (Production name left right line) = ⊤
IsFullUnit (Fence left right line) = ⊤

-- the regex of an ignorable matches its normal spelling
abbrev pub IsMatchedUnit : Unit → Type 0
IsMatchedUnit (Terminal name pattern regex line) = ⊤
IsMatchedUnit (Ignorable name pattern regex normal line) = Matches regex normal
IsMatchedUnit (Production name left right line) = ⊤
IsMatchedUnit (Fence left right line) = ⊤

-- what is known of a unit where a rule that speaks of single units does not fail
abbrev pub IsFineUnit : IllRule → Unit → Type 0
IsFineUnit Twice u = ⊤
IsFineUnit Undefined u = ⊤
IsFineUnit NoStart u = ⊤
IsFineUnit NameOnce u = ⊤
IsFineUnit Kind u = ⊤
IsFineUnit AttrTwice u = ⊤
IsFineUnit RootShape u = ⊤
IsFineUnit EmptyClass u = IsFullUnit u
IsFineUnit NotChar u = ⊤
IsFineUnit Normal u = IsMatchedUnit u
IsFineUnit Unproductive u = ⊤
IsFineUnit Loop u = ⊤
IsFineUnit FenceChar u = ⊤
IsFineUnit FenceInside u = ⊤
IsFineUnit FenceOpen u = ⊤

-- the same of each unit
abbrev pub AreFine : IllRule → List Unit → Type 0
AreFine rule us = EachOf (IsFineUnit rule) us

-- a string holds a character that XML does not have
abbrev pub IsStrangeItem : Item → Type 0
IsStrangeItem (I.Fixed text) = HasStrange text
IsStrangeItem (I.Named name slot) = ⊥
IsStrangeItem (I.Skip name) = ⊥

-- the same of a string in an attribute's value or outside attributes
abbrev pub IsStrangeMark : Mark → Type 0
IsStrangeMark (Opening tag names) = ⊥
IsStrangeMark (Attribute name) = ⊥
IsStrangeMark AttributeEnd = ⊥
IsStrangeMark (Closing tag) = ⊥
IsStrangeMark (Value i) = IsStrangeItem i
IsStrangeMark (Content i) = IsStrangeItem i

-- a string on either side of the production holds a character that XML does not have
abbrev pub IsStrangeRule : Rule → Type 0
IsStrangeRule r = SomeOf IsStrangeMark r.left ⊎ SomeOf IsStrangeMark r.right

-- the lesser of two lines, where there are any
abbrev pub lesser : Option ℕ → Option ℕ → Option ℕ
lesser None other = other
lesser (Some line) other = Some (earlier other line)
