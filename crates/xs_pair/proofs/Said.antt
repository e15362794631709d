-- What holds of the texts of a sheet's tokens holds of each text on a side of a production.
use Rattle.std.proofs.Common.{◌≡◌, ◌⊎◌, inl, inr, ℕ, ◌+◌, List, [], ◌∷◌, ◌++◌, map, sym, subst, encode_utf8_all, if◌then◌else◌, true, false, Bool}
use Rattle.std.specs.List.{insert}
use Rattle.xs_lex.specs.declared.kind.Kind.{Kind}
use Rattle.xs_lex.specs.declared.kind.Kind.TheVariants.{Plain, Qual, Quoted, Equals, SlashEnd, AngleEnd, End, Bad}
use Rattle.xs_lex.specs.Spelling.{Spells}
use Rattle.xs_lex.specs.Reading.{Lexeme, Extent, AreTokensFrom}
use Rattle.xs_gram.proofs.Each.{each_append}
use Rattle.xs_gram.specs.Building.{EachOf}
use Rattle.xs_sheet.specs.declared.piece.Piece.{Piece}
use Rattle.xs_sheet.specs.declared.item.Item.{Item}
use Rattle.xs_sheet.specs.declared.item.Item.TheVariants.{Fixed, Named, Skip}
use Rattle.xs_sheet.specs.declared.x_item.Attr.{Attr}
use Rattle.xs_sheet.specs.declared.x_item.XItem.{XItem, Plain as PlainItem, Element}
use Rattle.xs_sheet.specs.declared.unit.Unit.{Unit as SheetUnit}
use Rattle.xs_sheet.specs.declared.unit.Unit.TheVariants.{Terminal, Ignorable, Production, Fence}
use Rattle.xs_sheet.specs.declared.sheet.Sheet.{Sheet}
use Rattle.xs_sheet.specs.Outline.{Content, nothing, item, element, UnitOutline, terminal, ignorable, production, fence, laid, with_item, unit_outline}
use Rattle.xs_sheet.specs.Pieces.{IsTextOf, IsPiece, ArePieces}
use Rattle.xs_sheet.specs.Grammar.{IsUnitName, IsName, ReadsEach, ReadsItem, ReadsAttr, ReadsOpening, ReadsClosing, ReadsSign, ReadsContent, ReadsUnit, IsSheetOf}
use Rattle.xs_sheet.proofs.ContentLaws.{with_plain, with_element}
use Rattle.xs_pair.specs.declared.mark.Mark.{Mark}
use Rattle.xs_pair.specs.declared.mark.Mark.TheVariants.{Opening, Attribute, AttributeEnd, Closing, Value, Content as OfContent}
use Rattle.xs_pair.specs.declared.production.Rule.{Rule}
use Rattle.xs_pair.specs.Listing.{rules_of}
use Rattle.xs_pair.specs.Marks.{marks_of, all_marks, attr_marks, attrs_marks, by_name, placed, place_before, opening_marks}
use Rattle.xs_pair.proofs.Lists.{each_insert, each_map, each_of_map}
use Rattle.xs_pair.proofs.Marks.{marks_plain, marks_element}
use Rattle.xs_pair.proofs.Nested.{item_induction}

-- what is said of a kind and a text holds of a token's kind and each text that it stands for
abbrev pub IsSaidOfToken : (Kind → List ℕ → Type 0) → Lexeme → Type 0
IsSaidOfToken Said t = (text : List ℕ) → IsTextOf t.kind t.word text → Said t.kind text

abbrev IsSaidOfPiece : (Kind → List ℕ → Type 0) → Piece → Type 0
IsSaidOfPiece Said p = Said p.kind p.text

-- of the texts of an item
abbrev pub IsSaidOfItem : (Kind → List ℕ → Type 0) → Item → Type 0
IsSaidOfItem Said (Fixed text) = Said Quoted text
IsSaidOfItem Said (Named name slot) = Said Plain name × Said Plain slot
IsSaidOfItem Said (Skip name) = Said Plain name

-- of the name of a tag or an attribute, which is plain or qualified
abbrev pub IsSaidOfName : (Kind → List ℕ → Type 0) → List ℕ → Type 0
IsSaidOfName Said name = Said Plain name ⊎ Said Qual name

abbrev IsSaidOfAttr : (Kind → List ℕ → Type 0) → Attr → Type 0
IsSaidOfAttr Said a = IsSaidOfName Said a.name × EachOf (IsSaidOfItem Said) a.value

abbrev IsSaidOfContent : (Kind → List ℕ → Type 0) → Content → Type 0
IsSaidOfContent Said nothing = Unit {0}
IsSaidOfContent Said (item before i) = IsSaidOfContent Said before × IsSaidOfItem Said i
IsSaidOfContent Said (element before tag attrs inner) = IsSaidOfContent Said before × IsSaidOfName Said tag × EachOf (IsSaidOfAttr Said) attrs × IsSaidOfContent Said inner

-- of the texts of both sides of a production
abbrev IsSaidOfUnit : (Kind → List ℕ → Type 0) → UnitOutline → Type 0
IsSaidOfUnit Said (production name left right line) = EachOf (IsSaidOfItem Said) left × IsSaidOfContent Said right
IsSaidOfUnit Said unit = Unit {0}

abbrev pub IsSaidOfMark : (Kind → List ℕ → Type 0) → Mark → Type 0
IsSaidOfMark Said (Opening tag names) = IsSaidOfName Said tag
IsSaidOfMark Said (Attribute name) = IsSaidOfName Said name
IsSaidOfMark Said AttributeEnd = Unit {0}
IsSaidOfMark Said (Closing tag) = IsSaidOfName Said tag
IsSaidOfMark Said (Value i) = IsSaidOfItem Said i
IsSaidOfMark Said (OfContent i) = IsSaidOfItem Said i

abbrev pub IsSaidOfRule : (Kind → List ℕ → Type 0) → Rule → Type 0
IsSaidOfRule Said r = EachOf (IsSaidOfMark Said) r.left × EachOf (IsSaidOfMark Said) r.right

module _ (Said : Kind → List ℕ → Type 0) where
  abbrev AreSaid : List Piece → Type 0
  AreSaid ps = EachOf (IsSaidOfPiece Said) ps

  -- tokens and pieces
  piece_said : (t : Lexeme) (p : Piece) → IsPiece t p → IsSaidOfToken Said t → IsSaidOfPiece Said p
  piece_said t p is said = subst (λ (k : Kind). Said k p.text) (sym is.kind) (said p.text is.text)

  pieces_said : (ts : List Lexeme) (ps : List Piece) → ArePieces ts ps → EachOf (IsSaidOfToken Said) ts → AreSaid ps
  pieces_said [] [] are said = tt
  pieces_said (t ∷ ts) (p ∷ ps) are said = (piece_said t p are.0 said.0, pieces_said ts ps are.1 said.1)
  pieces_said ts ps are said = absurd are

  text_said : (p : Piece) (k : Kind) (text : List ℕ) → IsSaidOfPiece Said p → p.kind ≡ k → p.text ≡ text → Said k text
  text_said p k text said kind is = subst (λ (z : Kind). Said z text) kind (subst (λ (w : List ℕ). Said p.kind w) is said)

  unit_name_said : (p : Piece) (name : List ℕ) → IsSaidOfPiece Said p → IsUnitName p name → Said Plain name
  unit_name_said p name said is = text_said p Plain name said is.plain is.name_is

  name_said : (p : Piece) (name : List ℕ) → IsSaidOfPiece Said p → IsName p name → IsSaidOfName Said name
  name_said p name said is = by is.kind
    where
      by : (p.kind ≡ Plain) ⊎ (p.kind ≡ Qual) → IsSaidOfName Said name
      by (inl plain) = inl (text_said p Plain name said plain is.name_is)
      by (inr qual) = inr (text_said p Qual name said qual is.name_is)

  -- forms that were read, and the pieces after them
  each_read : {A : Type 0} (IsSaid : A → Type 0) (Reads : A → List Piece → List Piece → Type 0) → ((x : A) (ps rest : List Piece) → Reads x ps rest → AreSaid ps → IsSaid x × AreSaid rest) → (xs : List A) (ps rest : List Piece) → ReadsEach Reads xs ps rest → AreSaid ps → EachOf IsSaid xs × AreSaid rest
  each_read IsSaid Reads one [] ps rest reads said = (tt, subst AreSaid reads said)
  each_read IsSaid Reads one (x ∷ xs) ps rest reads said =
      let first = one x ps reads.0 reads.1 said in
      let more = each_read IsSaid Reads one xs reads.0 rest reads.2 first.1 in
      ((first.0, more.0), more.1)

  item_read : (i : Item) (ps rest : List Piece) → ReadsItem i ps rest → AreSaid ps → IsSaidOfItem Said i × AreSaid rest
  item_read (Fixed text) ps rest reads said =
      let here = subst AreSaid reads.1 said in (text_said reads.0 Quoted text here.0 reads.2.kind reads.2.text_is, here.1)
  item_read (Named name slot) ps rest reads said =
      let here = subst AreSaid reads.4 said in
      ((unit_name_said reads.1 name here.1.0 reads.6, unit_name_said reads.2 slot here.1.1.0 reads.7), here.1.1.1.1)
  item_read (Skip name) ps rest reads said =
      let here = subst AreSaid reads.3 said in (unit_name_said reads.1 name here.1.0 reads.5, here.1.1.1)

  attr_read : (a : Attr) (ps rest : List Piece) → ReadsAttr a ps rest → AreSaid ps → IsSaidOfAttr Said a × AreSaid rest
  attr_read a ps rest reads said =
      let here = subst AreSaid reads.is said in
      let value = each_read (IsSaidOfItem Said) ReadsItem item_read a.value reads.next rest reads.value here.1.1 in
      ((name_said reads.name a.name here.0 reads.name_is, value.0), value.1)

  opening_read : (tag : List ℕ) (ps rest : List Piece) → ReadsOpening tag ps rest → AreSaid ps → IsSaidOfName Said tag × AreSaid rest
  opening_read tag ps rest reads said =
      let here = subst AreSaid reads.is said in (name_said reads.name tag here.1.0 reads.name_is, here.1.1)

  after_sign : (kind : Kind) (ps rest : List Piece) → ReadsSign kind ps rest → AreSaid ps → AreSaid rest
  after_sign kind ps rest reads said = (subst AreSaid reads.is said).1

  after_closing : (tag : List ℕ) (ps rest : List Piece) → ReadsClosing tag ps rest → AreSaid ps → AreSaid rest
  after_closing tag ps rest reads said = (subst AreSaid reads.is said).1.1.1

  content_read : (depth : ℕ) (c : Content) (ps rest : List Piece) → ReadsContent depth c ps rest → AreSaid ps → IsSaidOfContent Said c × AreSaid rest
  content_read depth nothing ps rest reads said = (tt, subst AreSaid reads said)
  content_read depth (item before i) ps rest reads said =
      let first = content_read depth before ps reads.0 reads.1 said in
      let last = item_read i reads.0 rest reads.2 first.1 in
      ((first.0, last.0), last.1)
  content_read depth (element before tag attrs inner) ps rest reads said =
      let first = content_read depth before ps reads.0 reads.1 said in
      let opening = opening_read tag reads.0 reads.3 reads.4 first.1 in
      let all = each_read (IsSaidOfAttr Said) ReadsAttr attr_read attrs reads.3 reads.5 reads.6 opening.1 in
      let inside = by reads.7 all.1 (λ (qs last : List Piece) (r : ReadsContent (depth + 1) inner qs last) (f : AreSaid qs). content_read (depth + 1) inner qs last r f) in
      ((first.0, opening.0, all.0, inside.0), inside.1)
    where
      by : {ended : List Piece} → ((inner ≡ nothing) × ReadsSign SlashEnd ended rest) ⊎ ((inside : List Piece) × ReadsSign AngleEnd ended inside × (closing : List Piece) × ReadsContent (depth + 1) inner inside closing × ReadsClosing tag closing rest) → AreSaid ended → ((qs last : List Piece) → ReadsContent (depth + 1) inner qs last → AreSaid qs → IsSaidOfContent Said inner × AreSaid last) → IsSaidOfContent Said inner × AreSaid rest
      by {ended = ended} (inl empty) f within = (subst (IsSaidOfContent Said) (sym empty.0) tt, after_sign SlashEnd ended rest empty.1 f)
      by {ended = ended} (inr full) f within =
          let x = within full.0 full.2 full.3 (after_sign AngleEnd ended full.0 full.1 f) in (x.0, after_closing tag full.2 rest full.4 x.1)

  unit_read : (u : UnitOutline) (ps rest : List Piece) → ReadsUnit u ps rest → AreSaid ps → IsSaidOfUnit Said u × AreSaid rest
  unit_read (terminal name pattern line) ps rest reads said = (tt, (subst AreSaid reads.is said).1.1.1.1)
  unit_read (ignorable name pattern normal line) ps rest reads said = (tt, (subst AreSaid reads.is said).1.1.1.1.1)
  unit_read (fence left right line) ps rest reads said = (tt, (subst AreSaid reads.is said).1.1.1)
  unit_read (production name left right line) ps rest reads said =
      let text = each_read (IsSaidOfItem Said) ReadsItem item_read left reads.next reads.mid reads.left_is (subst AreSaid reads.is said).1.1 in
      let xml = content_read 0 right reads.inside rest reads.right_is (after_sign Equals reads.mid reads.inside reads.equals_is text.1) in
      ((text.0, xml.0), xml.1)

  -- marks
  values_said : (is : List Item) → EachOf (IsSaidOfItem Said) is → EachOf (IsSaidOfMark Said) (map Value is)
  values_said is said = each_map (IsSaidOfMark Said) Value is said

  attrs_said : (attrs : List Attr) → EachOf (IsSaidOfAttr Said) attrs → EachOf (IsSaidOfMark Said) (attrs_marks attrs)
  attrs_said [] said = tt
  attrs_said (a ∷ attrs) said =
      let first : EachOf (IsSaidOfMark Said) (attr_marks a) = (said.0.0, each_append (IsSaidOfMark Said) (map Value a.value) (AttributeEnd ∷ []) (values_said a.value said.0.1) (tt, tt)) in
      each_append (IsSaidOfMark Said) (attr_marks a) (attrs_marks attrs) first (attrs_said attrs said.1)

  placed_said : (sorted attrs : List Attr) → EachOf (IsSaidOfAttr Said) sorted → EachOf (IsSaidOfAttr Said) attrs → EachOf (IsSaidOfAttr Said) (placed sorted attrs)
  placed_said sorted [] said more = said
  placed_said sorted (a ∷ attrs) said more =
      let k : ℕ = place_before (encode_utf8_all a.name) sorted in placed_said (insert sorted k a) attrs (each_insert (IsSaidOfAttr Said) sorted k a more.0 said) more.1

  -- what is said of content with an item more is said of the content, and of the item's marks
  abbrev IsReadable : XItem → Type 0
  IsReadable x = (before : Content) → IsSaidOfContent Said (with_item x before) → IsSaidOfContent Said before × EachOf (IsSaidOfMark Said) (marks_of x)

  laid_said : (xs : List XItem) (before : Content) → EachOf IsReadable xs → IsSaidOfContent Said (laid before (map with_item xs)) → IsSaidOfContent Said before × EachOf (IsSaidOfMark Said) (all_marks xs)
  laid_said [] before each said = (said, tt)
  laid_said (x ∷ xs) before each said =
      let more = laid_said xs (with_item x before) each.1 said in
      let first = each.0 before more.0 in
      (first.0, each_append (IsSaidOfMark Said) (marks_of x) (all_marks xs) first.1 more.1)

  plain_said : (i : Item) → IsReadable (PlainItem i)
  plain_said i before said =
      let all = subst (IsSaidOfContent Said) (with_plain i before) said in
      (all.0, subst (EachOf (IsSaidOfMark Said)) (sym (marks_plain i)) (all.1, tt))

  element_said : (tag : List ℕ) (attrs : List Attr) (content : List XItem) → EachOf IsReadable content → IsReadable (Element tag attrs content)
  element_said tag attrs content each before said =
      let all = subst (IsSaidOfContent Said) (with_element tag attrs content before) said in
      let inside = laid_said content nothing each all.3 in
      let opening : EachOf (IsSaidOfMark Said) (opening_marks tag attrs) = (all.1, attrs_said (by_name attrs) (placed_said [] attrs tt all.2)) in
      let closing : EachOf (IsSaidOfMark Said) (all_marks content ++ Closing tag ∷ []) = each_append (IsSaidOfMark Said) (all_marks content) (Closing tag ∷ []) inside.1 (all.1, tt) in
      (all.0, subst (EachOf (IsSaidOfMark Said)) (sym (marks_element tag attrs content)) (each_append (IsSaidOfMark Said) (opening_marks tag attrs) (all_marks content ++ Closing tag ∷ []) opening closing))

  readable : (xs : List XItem) → EachOf IsReadable xs
  readable [] = tt
  readable (x ∷ xs) = (item_induction IsReadable plain_said element_said x, readable xs)

  rules_said : (us : List SheetUnit) → EachOf (λ (u : SheetUnit). IsSaidOfUnit Said (unit_outline u)) us → EachOf (IsSaidOfRule Said) (rules_of us)
  rules_said [] said = tt
  rules_said (Terminal name pattern regex line ∷ us) said = rules_said us said.1
  rules_said (Ignorable name pattern regex normal line ∷ us) said = rules_said us said.1
  rules_said (Fence left right line ∷ us) said = rules_said us said.1
  rules_said (Production name left right line ∷ us) said = ((each_map (IsSaidOfMark Said) OfContent left said.0.0, (laid_said right nothing (readable right) said.0.1).1), rules_said us said.1)

  -- what is said of each token of a sheet is said of each production
  pub said_of_rules : (bytes : List ℕ) (s : Sheet) (is : IsSheetOf bytes s) → EachOf (IsSaidOfToken Said) is.tokens → EachOf (IsSaidOfRule Said) (rules_of s.units)
  said_of_rules bytes s is said =
      let all : AreSaid is.pieces = pieces_said is.tokens is.pieces is.pieces_are said in
      rules_said s.units (each_of_map (IsSaidOfUnit Said) unit_outline s.units (each_read (IsSaidOfUnit Said) ReadsUnit unit_read (map unit_outline s.units) is.reads.next is.reads.mid is.reads.units_are (subst AreSaid is.reads.is all).1.1.1).0)

  module _ (of_spelt : (k : Kind) (word text : List ℕ) → Spells k word → IsTextOf k word text → Said k text) (of_end : (text : List ℕ) → Said End text) (of_bad : (text : List ℕ) → Said Bad text) where
    of_last : (b : Bool) (k : Kind) (text : List ℕ) → k ≡ (if b then End else Bad) → Said k text
    of_last true k text e = subst (λ (z : Kind). Said z text) (sym e) (of_end text)
    of_last false k text e = subst (λ (z : Kind). Said z text) (sym e) (of_bad text)

    tokens_said : (x : Extent) (text : List ℕ) (ts : List Lexeme) → AreTokensFrom x text ts → EachOf (IsSaidOfToken Said) ts
    tokens_said x text [] are = absurd are
    tokens_said x text (t ∷ ts) (rest, apart, stands, inl last) = (λ z is. of_last _ t.kind z last.1.kind, subst (EachOf (IsSaidOfToken Said)) (sym last.0) tt)
    tokens_said x text (t ∷ ts) (rest, apart, stands, inr more) = (λ z is. of_spelt t.kind t.word z more.1.begins.spells is, tokens_said x more.0 ts more.2)

    -- what is said of each kind's spellings is said of each production
    pub said_of_spelt : (bytes : List ℕ) (s : Sheet) → IsSheetOf bytes s → EachOf (IsSaidOfRule Said) (rules_of s.units)
    said_of_spelt bytes s is = said_of_rules bytes s is (tokens_said _ _ is.tokens is.tokens_are)
