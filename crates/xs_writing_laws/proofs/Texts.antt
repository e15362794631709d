-- Words of items without markup, and the words of the language of texts.
use Rattle.std.proofs.Common.{◌≡◌, ℕ, List, [], ◌∷◌, map, refl, sym, subst, None, Some}
use Rattle.std.specs.declared.option.Option.{Option}
use Rattle.xs_class.specs.declared.side.Side.TheVariants.{Text}
use Rattle.xs_class.specs.Ordered.{place_of}
use Rattle.xs_gram.proofs.Each.{each_append}
use Rattle.xs_sheet.specs.declared.item.Item.{Item}
use Rattle.xs_sheet.specs.declared.item.Item.TheVariants as I
use Rattle.xs_sheet.specs.declared.sheet.Sheet.{Sheet}
use Rattle.xs_sheet.specs.declared.unit.Unit.{Unit as SheetUnit}
use Rattle.xs_sheet.specs.declared.unit.Unit.TheVariants.{Terminal, Ignorable, Production, Fence}
use Rattle.xs_gram.specs.declared.parts.GItem.{GItem}
use Rattle.xs_gram.specs.declared.parts.GItem.TheVariants.{Fixed, Term, Non, Skip}
use Rattle.xs_gram.specs.declared.parts.RulePart.{RulePart}
use Rattle.xs_gram.specs.Grammar.{Grammar, items, no_rule}
use Rattle.xs_gram.specs.Derivations.{Parts, done, fixed, leaf, skip, sub, FitsItems, parts_yield}
use Rattle.xs_gram.specs.Building.{EachOf}
use Rattle.xs_pair.specs.declared.mark.Mark.{Mark}
use Rattle.xs_pair.specs.declared.mark.Mark.TheVariants.{Content}
use Rattle.xs_pair.specs.declared.production.Rule.{Rule}
use Rattle.xs_pair.specs.Listing.{rules_of}
use Rattle.xs_pair.specs.Marks.{slot_names}
use Rattle.xs_pair.specs.Units.{number_of}
use Rattle.xs_pair.specs.Grammars.{Numbering, numbering, named_item, fixed_item, flat_item, flat_marks, rule_part, IsGramOf}
use Rattle.xs_writing_laws.specs.Laws.{AreChars, HasChars, IsOfChars, HasCharStrings, TextsAreCharacters}
use Rattle.xs_pair.proofs.Lists.{each_at, each_get}
use Rattle.xs_writing_laws.proofs.Characters.{chars_append, chars_are_characters}
use Rattle.xs_writing_laws.proofs.Spelling.{IsSpelt, gram_spelt}

-- a fixed word is one of characters of XML
abbrev pub IsTextItem : GItem → Type 0
IsTextItem (Fixed f) = AreChars f
IsTextItem (Term t s) = Unit {0}
IsTextItem (Non n s) = Unit {0}
IsTextItem (Skip k) = Unit {0}

fixed_text : (text : List ℕ) → AreChars text → EachOf IsTextItem (fixed_item text)
fixed_text [] p = tt
fixed_text (c ∷ cs) p = (p, tt)

named_text : (o : Option ℕ) (non slot : ℕ) → IsTextItem (named_item o non slot)
named_text None non slot = tt
named_text (Some t) non slot = tt

pub text_item : (n : Numbering) (slots : List (List ℕ)) (i : Item) → HasChars i → EachOf IsTextItem (flat_item n slots i)
text_item n slots (I.Fixed text) p = fixed_text text p
text_item n slots (I.Named name slot) p = (named_text (place_of n.terms name) (number_of n.nons name) (number_of slots slot), tt)
text_item n slots (I.Skip name) p = (tt, tt)

text_words : (g : Grammar) → IsSpelt g → ((p : ℕ) → EachOf IsTextItem (items g p)) → (is : List GItem) (ps : Parts) → EachOf IsTextItem is → FitsItems g is ps → AreChars (parts_yield ps)
text_words g spelt rules [] done each fit = refl
text_words g spelt rules (Fixed f ∷ is) (fixed u ps) each fit = chars_append u (parts_yield ps) (subst AreChars (sym fit.0) each.0) (text_words g spelt rules is ps each.1 fit.1)
text_words g spelt rules (Term t s ∷ is) (leaf u ps) each fit = chars_append u (parts_yield ps) (spelt.terms t u fit.0) (text_words g spelt rules is ps each.1 fit.1)
text_words g spelt rules (Skip k ∷ is) (skip u ps) each fit = chars_append u (parts_yield ps) (spelt.skips k u fit.0) (text_words g spelt rules is ps each.1 fit.1)
text_words g spelt rules (Non n s ∷ is) (sub q qs ps) each fit = chars_append (parts_yield qs) (parts_yield ps) (text_words g spelt rules (items g q) qs (rules q) fit.1) (text_words g spelt rules is ps each.1 fit.2)
text_words g spelt rules is ps each fit = absurd fit

-- the text side of a production is a list of items
abbrev pub IsOfItems : Rule → Type 0
IsOfItems r = (is : List Item) × (r.left ≡ map Content is)

lefts : (us : List SheetUnit) → EachOf IsOfItems (rules_of us)
lefts [] = tt
lefts (Terminal name pattern regex line ∷ us) = lefts us
lefts (Ignorable name pattern regex normal line ∷ us) = lefts us
lefts (Fence left right line ∷ us) = lefts us
lefts (Production name left right line ∷ us) = ((left, refl), lefts us)

content_items : (n : Numbering) (slots : List (List ℕ)) (is : List Item) → EachOf IsOfChars (map Content is) → EachOf IsTextItem (flat_marks n slots (map Content is))
content_items n slots [] p = tt
content_items n slots (i ∷ is) p = each_append IsTextItem (flat_item n slots i) (flat_marks n slots (map Content is)) (text_item n slots i p.0) (content_items n slots is p.1)

left_items : (n : Numbering) (rs : List Rule) → EachOf IsOfItems rs → EachOf (λ (r : Rule). EachOf IsOfChars r.left) rs → EachOf (λ (r : RulePart). EachOf IsTextItem r.items) (map (rule_part n Text) rs)
left_items n [] are chars = tt
left_items n (r ∷ rs) are chars =
    let first : EachOf IsTextItem (flat_marks n (slot_names r.left) r.left) = subst (λ (ms : List Mark). EachOf IsTextItem (flat_marks n (slot_names r.left) ms)) (sym are.0.1) (content_items n (slot_names r.left) are.0.0 (subst (EachOf IsOfChars) are.0.1 chars.0)) in
    (first, left_items n rs are.1 chars.1)

text_rules : (s : Sheet) (names : List (List ℕ)) (g : Grammar) → HasCharStrings s → IsGramOf s names Text g → (p : ℕ) → EachOf IsTextItem (items g p)
text_rules s names g strings is p =
    let each = left_items (numbering s.units names) (rules_of s.units) (lefts s.units) (each_get (λ (r : Rule). EachOf IsOfChars r.left) (rules_of s.units) strings.left) in
    each_at (λ (r : RulePart). EachOf IsTextItem r.items) g.rules p no_rule tt (subst (EachOf (λ (r : RulePart). EachOf IsTextItem r.items)) (sym is.rules) each)

pub texts_lem : TextsAreCharacters
texts_lem s p strings is w lang =
    let g = p.text in
    let d = lang.0 in
    let rules = text_rules s p.names g strings is.text in
    let word : AreChars (parts_yield d.parts) = text_words g (gram_spelt s p.names Text g is.text) rules (items g d.rule) d.parts (rules d.rule) lang.1.0.1 in
    chars_are_characters w (subst AreChars lang.1.1 word)
