-- The words of the language of XML documents.
use Rattle.std.proofs.Common.{◌≡◌, ◌∙◌, ◌<◌, ℕ, List, [], ◌∷◌, map, length, true, refl, sym, subst, inl, inr}
use Rattle.xs_class.specs.declared.side.Side.TheVariants.{Xml}
use Rattle.xs_class.specs.Ordered.{IsOrdered}
use Rattle.xs_pair.proofs.Buildable.{same_number}
use Rattle.xs_gram.proofs.Each.{each_weaker}
use Rattle.xs_sheet.specs.declared.x_item.XItem.{XItem}
use Rattle.xs_sheet.specs.declared.sheet.Sheet.{Sheet}
use Rattle.xs_sheet.specs.declared.unit.Unit.{Unit as SheetUnit}
use Rattle.xs_sheet.specs.declared.unit.Unit.TheVariants.{Terminal, Ignorable, Production, Fence}
use Rattle.xs_gram.specs.declared.parts.GItem.{GItem}
use Rattle.xs_gram.specs.declared.parts.GItem.TheVariants.{Fixed, Term, Non, Skip}
use Rattle.xs_gram.specs.declared.parts.RulePart.{RulePart}
use Rattle.xs_gram.specs.Grammar.{Grammar, items, rule_of, no_rule}
use Rattle.xs_gram.specs.Derivations.{Parts, done, fixed, leaf, skip, sub, FitsItems, parts_yield}
use Rattle.xs_gram.specs.Building.{EachOf}
use Rattle.xs_xml_out.specs.Balanced.{IsContent, IsBalanced}
use Rattle.xs_pair.specs.declared.mark.Mark.{Mark}
use Rattle.xs_pair.specs.declared.names.Sort.TheVariants as S
use Rattle.xs_pair.specs.declared.production.Rule.{Rule}
use Rattle.xs_pair.specs.Rules.{IsAmong}
use Rattle.xs_pair.specs.Listing.{rules_of}
use Rattle.xs_pair.specs.Marks.{all_marks, is_element, slot_names}
use Rattle.xs_pair.specs.Units.{names_of, nons_of, number_of}
use Rattle.xs_pair.specs.Grammars.{Numbering, numbering, flat_marks, rule_part, Pair, IsPairOf}
use Rattle.xs_pair.proofs.Places.{found_there, among_or_absent}
use Rattle.xs_writing_laws.specs.Laws.{IsWritable, DocumentsAreBalanced}
use Rattle.xs_pair.proofs.Lists.{each_at, each_in}
use Rattle.xs_writing_laws.proofs.Spelling.{IsSpelt, gram_spelt}
use Rattle.xs_pair.proofs.Nested as N
use Rattle.xs_pair.proofs.Nested.{IsNested, IsElement, all_nested, root_element}
use Rattle.xs_writing_laws.proofs.Cuts.{HasContent}
use Rattle.xs_writing_laws.proofs.Elements.{IsGood, nested_content, element_balanced}
use Rattle.xs_writing_laws.proofs.Heads.{heads_among, head_among}
use Rattle.xs_writing_laws.proofs.Good.{good_rules, root_rules}

-- the XML side of a production is that of items of a sheet
abbrev IsShaped : Rule → Type 0
IsShaped r = (xs : List XItem) × (r.right ≡ all_marks xs) × (r.is_element ≡ is_element xs)

shapes : (us : List SheetUnit) → EachOf IsShaped (rules_of us)
shapes [] = tt
shapes (Terminal name pattern regex line ∷ us) = shapes us
shapes (Ignorable name pattern regex normal line ∷ us) = shapes us
shapes (Fence left right line ∷ us) = shapes us
shapes (Production name left right line ∷ us) = ((right, refl, refl), shapes us)

-- a rule of good marks; those of the number of the start are one element
record IsXmlRule (n : Numbering) (start : ℕ) (r : RulePart) : Type 0 where
  marks : List Mark
  slots : List (List ℕ)
  nested : IsNested marks
  good : EachOf (IsGood n) marks
  is_flat : r.items ≡ flat_marks n slots marks
  root : r.non ≡ start → IsElement marks

-- what one production has for it
record IsReady (n : Numbering) (start : List ℕ) (r : Rule) : Type 0 where
  shaped : IsShaped r
  good : EachOf (IsGood n) r.right
  root : r.name ≡ start → r.is_element ≡ true
  among : IsAmong n.nons r.name

together : (n : Numbering) (start : List ℕ) (rules : List Rule) → EachOf IsShaped rules → EachOf (λ (r : Rule). EachOf (IsGood n) r.right) rules → EachOf (λ (r : Rule). r.name ≡ start → r.is_element ≡ true) rules → EachOf (λ (r : Rule). IsAmong n.nons r.name) rules → EachOf (IsReady n start) rules
together n start [] shaped good root among = tt
together n start (r ∷ rules) shaped good root among = (record { shaped = shaped.0; good = good.0; root = root.0; among = among.0 }, together n start rules shaped.1 good.1 root.1 among.1)

xml_rule : (n : Numbering) (start : List ℕ) → IsAmong n.nons start → (r : Rule) → IsReady n start r → IsXmlRule n (number_of n.nons start) (rule_part n Xml r)
xml_rule n start there r ready = record {
  marks = r.right;
  slots = slot_names r.left;
  nested = subst IsNested (sym ready.shaped.1) (all_nested ready.shaped.0);
  good = ready.good;
  is_flat = refl;
  root = λ same. subst IsElement (sym ready.shaped.1) (root_element ready.shaped.0 (sym ready.shaped.2 ∙ ready.root (same_number n.nons r.name start ready.among there same)));
}

xml_rules : (n : Numbering) (start : List ℕ) → IsAmong n.nons start → (rules : List Rule) → EachOf (IsReady n start) rules → EachOf (IsXmlRule n (number_of n.nons start)) (map (rule_part n Xml) rules)
xml_rules n start there [] ready = tt
xml_rules n start there (r ∷ rules) ready = (xml_rule n start there r ready.0, xml_rules n start there rules ready.1)

-- the start is a nonterminal
start_among : (s : Sheet) → IsWritable s → IsAmong (nons_of s.units) s.start
start_among s well = elim (among_or_absent (names_of S.Production s.units) s.start) [
  | inl among ↦ head_among s.units s.start among.0 (found_there (names_of S.Production s.units) s.start among.0 among.1)
  | inr absent ↦ absurd (well.start s.start_line (absent, refl))
]

-- of a grammar whose rules all have good marks
abbrev Rules : Numbering → ℕ → Grammar → Type 0
Rules n start g = EachOf (IsXmlRule n start) g.rules

abbrev HasMarks : Numbering → List GItem → Type 0
HasMarks n is = (marks : List Mark) × (slots : List (List ℕ)) × IsNested marks × EachOf (IsGood n) marks × (is ≡ flat_marks n slots marks)

rule_marks : (n : Numbering) (start : ℕ) (g : Grammar) → Rules n start g → (q : ℕ) → HasMarks n (items g q)
rule_marks n start g rules q =
    each_at (λ (r : RulePart). HasMarks n r.items) g.rules q no_rule ([], [], N.none, tt, refl) (each_weaker (IsXmlRule n start) (λ (r : RulePart). HasMarks n r.items) (λ r x. (x.marks, x.slots, x.nested, x.good, x.is_flat)) g.rules rules)

rule_content : (n : Numbering) (g : Grammar) → IsSpelt g → IsOrdered n.names → (is : List GItem) → HasMarks n is → (ps : Parts) → FitsItems g is ps → HasContent n.names ps → IsContent n.names (parts_yield ps)
rule_content n g spelt up is has ps fit content = nested_content g n has.1 spelt up has.2 ps has.3 (subst (λ (js : List GItem). FitsItems g js ps) has.4 fit) content

-- each inner derivation yields content
inner_content : (n : Numbering) (g : Grammar) → IsSpelt g → IsOrdered n.names → ((q : ℕ) → HasMarks n (items g q)) → (is : List GItem) (ps : Parts) → FitsItems g is ps → HasContent n.names ps
inner_content n g spelt up has [] done fit = tt
inner_content n g spelt up has (Fixed f ∷ is) (fixed u ps) fit = inner_content n g spelt up has is ps fit.1
inner_content n g spelt up has (Term t s ∷ is) (leaf u ps) fit = inner_content n g spelt up has is ps fit.1
inner_content n g spelt up has (Skip k ∷ is) (skip u ps) fit = inner_content n g spelt up has is ps fit.1
inner_content n g spelt up has (Non m s ∷ is) (sub q qs ps) fit =
    let below : HasContent n.names qs = inner_content n g spelt up has (items g q) qs fit.1 in
    (rule_content n g spelt up (items g q) (has q) qs fit.1 below, inner_content n g spelt up has is ps fit.2)
inner_content n g spelt up has is ps fit = absurd fit

balanced : (n : Numbering) (start : ℕ) (g : Grammar) → IsSpelt g → IsOrdered n.names → Rules n start g → (q : ℕ) (ps : Parts) → q < length g.rules → (rule_of g q).non ≡ start → FitsItems g (items g q) ps → IsBalanced n.names (parts_yield ps)
balanced n start g spelt up rules q ps within non fit =
    let x : IsXmlRule n start (rule_of g q) = each_in (IsXmlRule n start) g.rules q no_rule within rules in
    let content : HasContent n.names ps = inner_content n g spelt up (rule_marks n start g rules) (items g q) ps fit in
    element_balanced g n x.slots spelt up x.marks (x.root non) ps x.good (subst (λ (is : List GItem). FitsItems g is ps) x.is_flat fit) content

gram_rules : (s : Sheet) (p : Pair) → IsWritable s → IsPairOf s p → Rules (numbering s.units p.names) (number_of (nons_of s.units) s.start) p.xml
gram_rules s p well is =
    let n : Numbering = numbering s.units p.names in
    let ready : EachOf (IsReady n s.start) (rules_of s.units) = together n s.start (rules_of s.units) (shapes s.units) (good_rules s p.names well is.names) (root_rules s well) (heads_among s.units) in
    subst (EachOf (IsXmlRule n (number_of n.nons s.start))) (sym is.xml.rules) (xml_rules n s.start (start_among s well) (rules_of s.units) ready)

pub documents_lem : DocumentsAreBalanced
documents_lem s p well is w lang =
    let d = lang.0 in
    let fits = lang.1.0 in
    subst (IsBalanced p.names) lang.1.1 (balanced (numbering s.units p.names) (number_of (nons_of s.units) s.start) p.xml (gram_spelt s p.names Xml p.xml is.xml) is.names.ordered (gram_rules s p well is) d.rule d.parts fits.0.0 (fits.0.1 ∙ is.xml.start) fits.1)
