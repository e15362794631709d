-- At which lines a rule fails, and which failure is reported.
use Rattle.std.specs.Prelude.{◌≡◌, ◌⊎◌, ⊤, ℕ, ◌<◌, ◌≤◌, List, min, None, Some, slice_get}
use Rattle.std.specs.declared.option.Option.{Option}
use Rattle.xs_sheet.specs.declared.sheet.Sheet.{Sheet}
use Rattle.xs_sheet.specs.declared.unit.Unit.{Unit}
use Rattle.xs_sheet.specs.declared.unit.Unit.TheVariants as U
use Rattle.xs_class.specs.Ordered.{place_of}
use Rattle.xs_pair.specs.declared.outline.Outline.{Outline}
use Rattle.xs_pair.specs.declared.ill.Ill.{Ill}
use Rattle.xs_pair.specs.declared.ill.IllRule.{IllRule}
use Rattle.xs_pair.specs.declared.ill.IllRule.TheVariants.{Twice, Undefined, NoStart, NameOnce, Kind, AttrTwice, RootShape, EmptyClass, NotChar, Normal, Unproductive, Loop, FenceChar, FenceInside, FenceOpen}
use Rattle.xs_pair.specs.declared.fault.PairFault.{PairFault}
use Rattle.xs_pair.specs.declared.fault.PairFault.TheVariants as F
use Rattle.xs_pair.specs.declared.mark.Mark.{Mark}
use Rattle.xs_pair.specs.declared.names.Sort.TheVariants as S
use Rattle.xs_pair.specs.declared.production.Rule.{Rule}
use Rattle.xs_pair.specs.Units.{names_of, unit_line, terms_of, skips_of, nons_of}
use Rattle.xs_pair.specs.Marks.{slots_of, slot_names}
use Rattle.xs_pair.specs.Listing.{rules_of}
use Rattle.xs_pair.specs.Rules.{SomeOf, IsAbsent, IsTwice, IsUndefined, IsNotOnce, IsMiskinded, HasTwoNames, RepeatsAttribute, HasNoRoot}

-- the names that the rules on productions look up: those of units, terminals and ignorables, and the start
pub record Tables : Type 0 where
  pub units : List (List ℕ)
  pub terms : List (List ℕ)
  pub skips : List (List ℕ)
  pub start : List ℕ

abbrev pub tables_of : Sheet → Tables
tables_of s = record { units = names_of S.Any s.units; terms = terms_of s.units; skips = skips_of s.units; start = s.start }

-- a rule that speaks of single marks fails at one
abbrev pub IsIllMark : IllRule → Tables → Mark → Type 0
IsIllMark Twice t m = ⊥
IsIllMark Undefined t m = IsUndefined t.units m
IsIllMark NoStart t m = ⊥
IsIllMark NameOnce t m = ⊥
IsIllMark Kind t m = IsMiskinded t.terms t.skips m
IsIllMark AttrTwice t m = RepeatsAttribute m
IsIllMark RootShape t m = ⊥
IsIllMark EmptyClass t m = ⊥
IsIllMark NotChar t m = ⊥
IsIllMark Normal t m = ⊥
IsIllMark Unproductive t m = ⊥
IsIllMark Loop t m = ⊥
IsIllMark FenceChar t m = ⊥
IsIllMark FenceInside t m = ⊥
IsIllMark FenceOpen t m = ⊥

-- a rule that speaks of productions fails in one
abbrev pub FailsIn : IllRule → Tables → Rule → Type 0
FailsIn Twice t r = ⊥
FailsIn Undefined t r = SomeOf (IsIllMark Undefined t) r.left ⊎ SomeOf (IsIllMark Undefined t) r.right
FailsIn NoStart t r = ⊥
FailsIn NameOnce t r = IsNotOnce (slot_names r.left) (slot_names r.right)
FailsIn Kind t r = (SomeOf (IsIllMark Kind t) r.left ⊎ SomeOf (IsIllMark Kind t) r.right) ⊎ HasTwoNames (slots_of r.left) (slots_of r.right)
FailsIn AttrTwice t r = SomeOf (IsIllMark AttrTwice t) r.right
FailsIn RootShape t r = HasNoRoot t.start r
FailsIn EmptyClass t r = ⊥
FailsIn NotChar t r = ⊥
FailsIn Normal t r = ⊥
FailsIn Unproductive t r = ⊥
FailsIn Loop t r = ⊥
FailsIn FenceChar t r = ⊥
FailsIn FenceInside t r = ⊥
FailsIn FenceOpen t r = ⊥

-- the line of an element of which P holds, beside its place
abbrev pub IsLineWhere : {A : Type 0} → (ℕ → A → Type 0) → (A → ℕ) → List A → ℕ → Type 0
IsLineWhere {A} P line_of xs line = (k : ℕ) × (x : A) × (slice_get xs k ≡ Some x) × P k x × (line_of x ≡ line)

-- the line of a production in which the rule fails
abbrev pub FailsAmong : Tables → List Rule → IllRule → ℕ → Type 0
FailsAmong t rules rule line = IsLineWhere (λ k (r : Rule). FailsIn rule t r) (λ (r : Rule). r.line) rules line

-- one of the first seven rules fails at the line
abbrev pub FailsAt : Sheet → IllRule → ℕ → Type 0
FailsAt s Twice line = IsLineWhere (IsTwice s.units) unit_line s.units line
FailsAt s Undefined line = FailsAmong (tables_of s) (rules_of s.units) Undefined line
FailsAt s NoStart line = IsAbsent (names_of S.Production s.units) s.start × (s.start_line ≡ line)
FailsAt s NameOnce line = FailsAmong (tables_of s) (rules_of s.units) NameOnce line
FailsAt s Kind line = FailsAmong (tables_of s) (rules_of s.units) Kind line
FailsAt s AttrTwice line = FailsAmong (tables_of s) (rules_of s.units) AttrTwice line
FailsAt s RootShape line = FailsAmong (tables_of s) (rules_of s.units) RootShape line
FailsAt s EmptyClass line = ⊥
FailsAt s NotChar line = ⊥
FailsAt s Normal line = ⊥
FailsAt s Unproductive line = ⊥
FailsAt s Loop line = ⊥
FailsAt s FenceChar line = ⊥
FailsAt s FenceInside line = ⊥
FailsAt s FenceOpen line = ⊥

-- the rules in order
abbrev pub order : IllRule → ℕ
order Twice = 0
order Undefined = 1
order NoStart = 2
order NameOnce = 3
order Kind = 4
order AttrTwice = 5
order RootShape = 6
order EmptyClass = 7
order NotChar = 8
order Normal = 9
order Unproductive = 10
order Loop = 11
order FenceChar = 12
order FenceInside = 13
order FenceOpen = 14

-- no rule fails at any line
abbrev pub NoneFails : (IllRule → ℕ → Type 0) → Type 0
NoneFails Fails = (rule : IllRule) (line : ℕ) → Fails rule line → ⊥

-- none of the rules before one fails
abbrev pub NoneBefore : (IllRule → ℕ → Type 0) → ℕ → Type 0
NoneBefore Fails place = (rule : IllRule) (line : ℕ) → order rule < place → Fails rule line → ⊥

-- the least line at which a rule fails
pub record IsLeast (Fails : ℕ → Type 0) (line : ℕ) : Type 0 where
  pub fails : Fails line
  pub least : (other : ℕ) → Fails other → line ≤ other

-- the least line, or none where the rule fails nowhere
abbrev pub IsFirstLine : (ℕ → Type 0) → Option ℕ → Type 0
IsFirstLine Fails None = (line : ℕ) → Fails line → ⊥
IsFirstLine Fails (Some line) = IsLeast Fails line

-- the first rule that fails, at the least line at which it does
pub record IsFirstIll (Fails : IllRule → ℕ → Type 0) (ill : Ill) : Type 0 where
  pub line : IsLeast (Fails ill.rule) ill.line
  pub first : NoneBefore Fails (order ill.rule)

-- what a refusal says of the sheet
abbrev pub IsRefusal : Sheet → PairFault → Type 0
IsRefusal s (F.Ill ill) = IsFirstIll (FailsAt s) ill
IsRefusal s F.Memory = ⊤

-- what the code has of a sheet: the names of its units, those of each sort, and its productions
pub record IsOutlineOf (s : Sheet) (o : Outline) : Type 0 where
  pub units : o.units ≡ names_of S.Any s.units
  pub lexical : o.lexical ≡ names_of S.Lexical s.units
  pub terms : o.terms ≡ terms_of s.units
  pub skips : o.skips ≡ skips_of s.units
  pub heads : o.heads ≡ names_of S.Production s.units
  pub nons : o.nons ≡ nons_of s.units
  pub rules : o.rules.items ≡ rules_of s.units
  pub start : o.start ≡ s.start
  pub line : o.start_line ≡ s.start_line

abbrev pub tables_in : Outline → Tables
tables_in o = record { units = o.units; terms = o.terms; skips = o.skips; start = o.start }

-- the unit's name is among the first `named` names of units, for a production among the first `lexical` of terminals
-- and ignorables
abbrev pub IsWithin : List (List ℕ) → List ℕ → ℕ → Type 0
IsWithin names name count = (k : ℕ) × (place_of names name ≡ Some k) × (k < count)

abbrev pub IsTaken : Outline → ℕ → ℕ → Unit → Type 0
IsTaken o named lexical (U.Terminal name pattern regex line) = IsWithin o.units name named
IsTaken o named lexical (U.Ignorable name pattern regex normal line) = IsWithin o.units name named
IsTaken o named lexical (U.Production name left right line) = IsWithin o.lexical name lexical
IsTaken o named lexical (U.Fence left right line) = ⊥

-- the lesser of two lines, where there is one already
abbrev pub earlier : Option ℕ → ℕ → ℕ
earlier None line = line
earlier (Some other) line = min other line
