-- The two grammars of a sheet.
use Rattle.std.specs.Prelude.{◌≡◌, ◌↔◌, ⊤, ℕ, List, [], ◌∷◌, ◌++◌, length, map, None, Some}
use Rattle.std.specs.List.{flat_map}
use Rattle.std.specs.declared.option.Option.{Option}
use Rattle.xs_class.specs.declared.side.Side.{Side}
use Rattle.xs_class.specs.declared.side.Side.TheVariants.{Text, Xml}
use Rattle.xs_class.specs.Marks.{attr_end, opening_mark, attribute_mark, closing_mark}
use Rattle.xs_class.specs.Ordered.{place_of, AreNamesOf}
use Rattle.xs_regex.specs.declared.regex.Regex.{Regex}
use Rattle.xs_regex.specs.Meaning.{IsPatternOf}
use Rattle.xs_sheet.specs.declared.item.Item.{Item}
use Rattle.xs_sheet.specs.declared.item.Item.TheVariants as I
use Rattle.xs_sheet.specs.declared.unit.Unit.{Unit}
use Rattle.xs_sheet.specs.declared.unit.Unit.TheVariants.{Terminal, Ignorable, Production, Fence}
use Rattle.xs_sheet.specs.declared.sheet.Sheet.{Sheet}
use Rattle.xs_gram.specs.declared.parts.GItem.{GItem}
use Rattle.xs_gram.specs.declared.parts.GItem.TheVariants.{Fixed, Term, Non, Skip}
use Rattle.xs_gram.specs.declared.parts.RulePart.{RulePart}
use Rattle.xs_gram.specs.declared.parts.SkipPart.{SkipPart}
use Rattle.xs_gram.specs.declared.parts.Terminal.{Terminal as GTerminal}
use Rattle.xs_gram.specs.declared.parts.GramParts.{GramParts}
use Rattle.xs_gram.specs.Grammar.{Grammar}
use Rattle.xs_gram.specs.Building.{skip_part, IsFit}
use Rattle.xs_gram.specs.Common.{Common, TreeFits}
use Rattle.xs_pair.specs.declared.mark.Mark.{Mark}
use Rattle.xs_pair.specs.declared.mark.Mark.TheVariants.{Opening, Attribute, AttributeEnd, Closing, Value, Content}
use Rattle.xs_pair.specs.declared.outline.Outline.{Outline}
use Rattle.xs_pair.specs.declared.production.Rule.{Rule}
use Rattle.xs_pair.specs.Units.{nons_of, terms_of, skips_of, number_of}
use Rattle.xs_pair.specs.Fences.{AreFences}
use Rattle.xs_pair.specs.Marks.{slot_names}
use Rattle.xs_pair.specs.Listing.{rules_of, names_in}

-- what names are numbered by: those of elements and attributes, terminals, nonterminals and ignorables
pub record Numbering : Type 0 where
  pub names : List (List ℕ)
  pub terms : List (List ℕ)
  pub nons : List (List ℕ)
  pub skips : List (List ℕ)

abbrev pub numbering : List Unit → List (List ℕ) → Numbering
numbering us names = record { names = names; terms = terms_of us; nons = nons_of us; skips = skips_of us }

-- the same, as the code has it
abbrev pub numbering_in : Outline → List (List ℕ) → Numbering
numbering_in o names = record { names = names; terms = o.terms; nons = o.nons; skips = o.skips }

-- a terminal where the name is one, else a nonterminal
abbrev pub named_item : Option ℕ → ℕ → ℕ → GItem
named_item None non slot = Non non slot
named_item (Some term) non slot = Term term slot

-- a string is a fixed word, if it is not empty
abbrev pub fixed_item : List ℕ → List GItem
fixed_item [] = []
fixed_item (c ∷ cs) = Fixed (c ∷ cs) ∷ []

abbrev pub flat_item : Numbering → List (List ℕ) → Item → List GItem
flat_item n slots (I.Fixed text) = fixed_item text
flat_item n slots (I.Named name slot) = named_item (place_of n.terms name) (number_of n.nons name) (number_of slots slot) ∷ []
flat_item n slots (I.Skip name) = Skip (number_of n.skips name) ∷ []

-- the fixed word of one symbol
abbrev pub symbol : ℕ → List GItem
symbol s = Fixed (s ∷ []) ∷ []

abbrev pub flat_mark : Numbering → List (List ℕ) → Mark → List GItem
flat_mark n slots (Opening tag names) = symbol (opening_mark (number_of n.names tag))
flat_mark n slots (Attribute name) = symbol (attribute_mark (number_of n.names name))
flat_mark n slots AttributeEnd = symbol attr_end
flat_mark n slots (Closing tag) = symbol (closing_mark (number_of n.names tag))
flat_mark n slots (Value i) = flat_item n slots i
flat_mark n slots (Content i) = flat_item n slots i

abbrev pub flat_marks : Numbering → List (List ℕ) → List Mark → List GItem
flat_marks n slots ms = flat_map (flat_mark n slots) ms

abbrev pub side_of : Side → Rule → List Mark
side_of Text r = r.left
side_of Xml r = r.right

-- the flat items of a production on a side; its slots are numbered in the order of its text side
abbrev pub rule_part : Numbering → Side → Rule → RulePart
rule_part n side r = record { non = number_of n.nons r.name; items = flat_marks n (slot_names r.left) (side_of side r) }

abbrev pub rule_parts : Numbering → Side → List Rule → List RulePart
rule_parts n side rs = map (rule_part n side) rs

-- each regex is that of the terminal's pattern
abbrev pub AreTermsOf : List Unit → List Regex → Type 0
AreTermsOf [] [] = ⊤
AreTermsOf [] (r ∷ rs) = ⊥
AreTermsOf (Terminal name pattern regex line ∷ us) [] = ⊥
AreTermsOf (Terminal name pattern regex line ∷ us) (r ∷ rs) = IsPatternOf pattern r × AreTermsOf us rs
AreTermsOf (Ignorable name pattern regex normal line ∷ us) rs = AreTermsOf us rs
AreTermsOf (Production name left right line ∷ us) rs = AreTermsOf us rs
AreTermsOf (Fence left right line ∷ us) rs = AreTermsOf us rs

-- each part has the regex of the ignorable's pattern, and its normal spelling
abbrev pub AreSkipsOf : List Unit → List SkipPart → Type 0
AreSkipsOf [] [] = ⊤
AreSkipsOf [] (k ∷ ks) = ⊥
AreSkipsOf (Terminal name pattern regex line ∷ us) ks = AreSkipsOf us ks
AreSkipsOf (Ignorable name pattern regex normal line ∷ us) [] = ⊥
AreSkipsOf (Ignorable name pattern regex normal line ∷ us) (k ∷ ks) = IsPatternOf pattern k.regex × (k.normal ≡ normal) × AreSkipsOf us ks
AreSkipsOf (Production name left right line ∷ us) ks = AreSkipsOf us ks
AreSkipsOf (Fence left right line ∷ us) ks = AreSkipsOf us ks

-- a terminal adds the regex of its pattern, another unit none
abbrev pub IsTermAdded : Unit → List Regex → List Regex → Type 0
IsTermAdded (Terminal name pattern regex line) old new = (r : Regex) × IsPatternOf pattern r × IsFit r × (new ≡ old ++ r ∷ [])
IsTermAdded (Ignorable name pattern regex normal line) old new = new ≡ old
IsTermAdded (Production name left right line) old new = new ≡ old
IsTermAdded (Fence left right line) old new = new ≡ old

-- an ignorable adds its part, another unit none
abbrev pub IsSkipAdded : Unit → List SkipPart → List SkipPart → Type 0
IsSkipAdded (Terminal name pattern regex line) old new = new ≡ old
IsSkipAdded (Ignorable name pattern regex normal line) old new = (k : SkipPart) × IsPatternOf pattern k.regex × IsFit k.regex × (k.normal ≡ normal) × (new ≡ old ++ k ∷ [])
IsSkipAdded (Production name left right line) old new = new ≡ old
IsSkipAdded (Fence left right line) old new = new ≡ old

-- the parts of one side's grammar, where the names of elements and attributes are given
pub record ArePartsOf (s : Sheet) (names : List (List ℕ)) (side : Side) (parts : GramParts) : Type 0 where
  pub start : parts.start ≡ number_of (nons_of s.units) s.start
  pub nons : parts.nons ≡ length (nons_of s.units)
  pub rules : parts.rules ≡ rule_parts (numbering s.units names) side (rules_of s.units)
  pub terms : AreTermsOf s.units parts.terms
  pub skips : AreSkipsOf s.units parts.skips
  pub fences : AreFences s names side parts.fences

-- the grammar of one side
pub record IsGramOf (s : Sheet) (names : List (List ℕ)) (side : Side) (g : Grammar) : Type 0 where
  pub start : g.start ≡ number_of (nons_of s.units) s.start
  pub nons : g.nons ≡ length (nons_of s.units)
  pub rules : g.rules ≡ rule_parts (numbering s.units names) side (rules_of s.units)
  pub terms : AreTermsOf s.units (map (λ (t : GTerminal). t.regex) g.terms)
  pub skips : AreSkipsOf s.units (map skip_part g.skips)
  pub fences : AreFences s names side g.fences

-- two grammars, with the names that their numbers stand for
pub record Pair : Type 0 where
  pub text : Grammar
  pub xml : Grammar
  pub names : List (List ℕ)
  pub lines : List ℕ
  pub nons : List (List ℕ)
  pub slots : List (List (List ℕ))

abbrev pub grammar_of : Pair → Side → Grammar
grammar_of p Text = p.text
grammar_of p Xml = p.xml

-- the two grammars of the sheet: their names, the lines of its productions, its nonterminals, and the
-- slots of each production
pub record IsPairOf (s : Sheet) (p : Pair) : Type 0 where
  pub names : AreNamesOf (names_in (rules_of s.units)) p.names
  pub text : IsGramOf s p.names Text p.text
  pub xml : IsGramOf s p.names Xml p.xml
  pub lines : p.lines ≡ map (λ (r : Rule). r.line) (rules_of s.units)
  pub nons : p.nons ≡ nons_of s.units
  pub slots : p.slots ≡ map (λ (r : Rule). slot_names r.left) (rules_of s.units)

-- the pair is that of a sheet
abbrev pub IsPair : Pair → Type 0
IsPair p = (s : Sheet) × IsPairOf s p

-- a common tree fits on one side exactly where it fits on the other
abbrev pub HaveSameTrees : Grammar → Grammar → Type 0
HaveSameTrees g h = (non : ℕ) (t : Common) → TreeFits g non t ↔ TreeFits h non t
