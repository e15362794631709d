-- The first seven rules of a well-formed sheet, each by what makes it fail.
use Rattle.std.specs.Prelude.{◌≡◌, ◌≢◌, ◌⊎◌, ℕ, ◌<◌, false, List, [], ◌∷◌, take, None, Some, slice_get}
use Rattle.xs_class.specs.Ordered.{place_of}
use Rattle.xs_sheet.specs.declared.item.Item.{Item}
use Rattle.xs_sheet.specs.declared.item.Item.TheVariants as I
use Rattle.xs_sheet.specs.declared.unit.Unit.{Unit}
use Rattle.xs_sheet.specs.declared.unit.Unit.TheVariants.{Terminal, Ignorable, Production, Fence}
use Rattle.xs_pair.specs.declared.mark.Mark.{Mark}
use Rattle.xs_pair.specs.declared.mark.Mark.TheVariants.{Opening, Attribute, AttributeEnd, Closing, Value, Content}
use Rattle.xs_pair.specs.declared.names.Sort.TheVariants as S
use Rattle.xs_pair.specs.declared.production.Rule.{Rule}
use Rattle.xs_pair.specs.Units.{names_of}

-- P holds of some element
abbrev pub SomeOf : {A : Type 0} → (A → Type 0) → List A → Type 0
SomeOf P [] = ⊥
SomeOf P (x ∷ xs) = P x ⊎ SomeOf P xs

-- the name is none of the names
abbrev pub IsAbsent : List (List ℕ) → List ℕ → Type 0
IsAbsent names name = place_of names name ≡ None

-- the name is one of the names
abbrev pub IsAmong : List (List ℕ) → List ℕ → Type 0
IsAmong names name = (k : ℕ) × (place_of names name ≡ Some k)

-- a terminal or an ignorable has the name of an earlier unit, or a production has the name of an
-- earlier terminal or ignorable
abbrev pub IsTwice : List Unit → ℕ → Unit → Type 0
IsTwice us k (Terminal name pattern regex line) = IsAmong (names_of S.Any (take k us)) name
IsTwice us k (Ignorable name pattern regex normal line) = IsAmong (names_of S.Any (take k us)) name
IsTwice us k (Production name left right line) = IsAmong (names_of S.Lexical (take k us)) name
IsTwice us k (Fence left right line) = ⊥

-- the item has a name, and it is none of the names
abbrev pub HasOtherName : List (List ℕ) → Item → Type 0
HasOtherName names (I.Fixed text) = ⊥
HasOtherName names (I.Named name slot) = IsAbsent names name
HasOtherName names (I.Skip name) = IsAbsent names name

abbrev pub IsUndefined : List (List ℕ) → Mark → Type 0
IsUndefined units (Opening tag names) = ⊥
IsUndefined units (Attribute name) = ⊥
IsUndefined units AttributeEnd = ⊥
IsUndefined units (Closing tag) = ⊥
IsUndefined units (Value i) = HasOtherName units i
IsUndefined units (Content i) = HasOtherName units i

-- the slot stands exactly once
abbrev pub IsOnce : List (List ℕ) → List ℕ → Type 0
IsOnce slots slot = (k : ℕ) × (slice_get slots k ≡ Some slot) × ((j : ℕ) → slice_get slots j ≡ Some slot → j ≡ k)

-- some slot of either side does not stand exactly once on one side and exactly once on the other
pub record IsNotOnce (left right : List (List ℕ)) : Type 0 where
  pub slot : List ℕ
  pub there : IsAmong left slot ⊎ IsAmong right slot
  pub not_once : IsOnce left slot → IsOnce right slot → ⊥

-- [NAME] where NAME is no ignorable, or [NAME SLOT] where it is one
abbrev pub IsMisnamed : List (List ℕ) → Item → Type 0
IsMisnamed skips (I.Fixed text) = ⊥
IsMisnamed skips (I.Named name slot) = IsAmong skips name
IsMisnamed skips (I.Skip name) = IsAbsent skips name

-- an item of another kind than its form asks for, or in an attribute's value one that is no terminal
abbrev pub IsMiskinded : List (List ℕ) → List (List ℕ) → Mark → Type 0
IsMiskinded terms skips (Opening tag names) = ⊥
IsMiskinded terms skips (Attribute name) = ⊥
IsMiskinded terms skips AttributeEnd = ⊥
IsMiskinded terms skips (Closing tag) = ⊥
IsMiskinded terms skips (Value i) = IsMisnamed skips i ⊎ HasOtherName terms i
IsMiskinded terms skips (Content i) = IsMisnamed skips i

-- one slot with two names of units on the two sides
pub record HasTwoNames (left right : List (List ℕ × List ℕ)) : Type 0 where
  pub slot : List ℕ
  pub name : List ℕ
  pub other : List ℕ
  pub j : ℕ
  pub k : ℕ
  pub left_at : slice_get left j ≡ Some (slot, name)
  pub right_at : slice_get right k ≡ Some (slot, other)
  pub differ : name ≢ other

-- some name stands at two places
pub record HasRepeat (names : List (List ℕ)) : Type 0 where
  pub name : List ℕ
  pub j : ℕ
  pub k : ℕ
  pub before : j < k
  pub first_at : slice_get names j ≡ Some name
  pub again_at : slice_get names k ≡ Some name

-- an element has two attributes of one name
abbrev pub RepeatsAttribute : Mark → Type 0
RepeatsAttribute (Opening tag names) = HasRepeat names
RepeatsAttribute (Attribute name) = ⊥
RepeatsAttribute AttributeEnd = ⊥
RepeatsAttribute (Closing tag) = ⊥
RepeatsAttribute (Value i) = ⊥
RepeatsAttribute (Content i) = ⊥

-- the XML side of a production of the start is anything but exactly one element
pub record HasNoRoot (start : List ℕ) (r : Rule) : Type 0 where
  pub of_start : r.name ≡ start
  pub other : r.is_element ≡ false
