-- A sheet weighs less than the bytes that spell it.
use Rattle.std.proofs.Common.{◌≡◌, ◌⊎◌, ◌∙◌, ◌≤◌, ◌+◌, inl, inr, ap, sym, subst, ℕ, List, [], ◌∷◌, length, map, Bool, true, false, arith, length-append}
use Rattle.std.specs.Prelude.{◌&&◌, if◌then◌else◌}
use Rattle.std.proofs.lemmas.List.{length-map}
use Rattle.std.proofs.lemmas.Str.{length-le-encodes, utf8_valid_len_le}
use Rattle.xs_lex.specs.declared.kind.Kind.{Kind}
use Rattle.xs_lex.specs.declared.kind.Kind.TheVariants.{Plain, Qual, Quoted, Pattern, Colon, Equals, SquareIn, SquareOut, Angle, AngleSlash, AngleEnd, SlashEnd, End, Bad}
use Rattle.xs_lex.specs.Between.{Blank, white, comment, spelt_blanks, IsApart}
use Rattle.xs_lex.specs.Reading.{Lexeme, Extent, AreTokensFrom, AreTokens, extent_of, IsLast, IsTokenAt}
use Rattle.xs_lex.specs.Spelling.{Spells, IsQuoted}
use Rattle.xs_lex.specs.Units.{QuotedUnit, plain, escaped, coded, spelt_quoted, meaning}
use Rattle.xs_lex.specs.Classes.{is_plain}
use Rattle.xs_sheet.specs.declared.piece.Piece.{Piece}
use Rattle.xs_sheet.specs.declared.item.Item.{Item}
use Rattle.xs_sheet.specs.declared.item.Item.TheVariants.{Fixed, Named, Skip}
use Rattle.xs_sheet.specs.declared.x_item.Attr.{Attr}
use Rattle.xs_sheet.specs.declared.sheet.Sheet.{Sheet}
use Rattle.xs_sheet.specs.Outline.{Content, nothing, item, element, UnitOutline, terminal, ignorable, production, fence, unit_outline}
use Rattle.xs_sheet.specs.Pieces.{IsPiece, ArePieces, IsTextOf}
use Rattle.xs_sheet.specs.Grammar.{ReadsItem, ReadsItems, ReadsAttr, ReadsAttrs, ReadsSign, ReadsClosing, ReadsContent, ReadsUnit, ReadsUnits, IsSheetOf}
use Rattle.xs_pair.specs.Weights.{item_weight}
use Rattle.xs_class.specs.Words.{is_empty}

-- what a token of this kind with this text weighs
abbrev pub heavy_as : Kind → List ℕ → ℕ
heavy_as Plain text = 1
heavy_as Qual text = 1
heavy_as Quoted text = length text + 2
heavy_as Pattern text = 1
heavy_as Colon text = 1
heavy_as Equals text = 1
heavy_as SquareIn text = 1
heavy_as SquareOut text = 1
heavy_as Angle text = 1
heavy_as AngleSlash text = 1
heavy_as AngleEnd text = 1
heavy_as SlashEnd text = 1
heavy_as End text = 0
heavy_as Bad text = 0

abbrev pub heavy : Piece → ℕ
heavy p = heavy_as p.kind p.text

abbrev pub all_heavy : List Piece → ℕ
all_heavy [] = 0
all_heavy (p ∷ ps) = heavy p + all_heavy ps

-- a word of a token is at least as long as the token weighs
units_long : (us : List QuotedUnit) (rest : List ℕ) → length us + length rest ≤ length (spelt_quoted us rest)
units_long [] rest = omega arith
units_long (plain c ∷ us) rest = let more = units_long us rest in omega arith
units_long (escaped c ∷ us) rest = let more = units_long us rest in omega arith
units_long (coded ds ∷ us) rest = omega (arith, length-append ds (125 ∷ spelt_quoted us rest), units_long us rest)

quoted_long : (word text : List ℕ) → IsQuoted word text → length text + 2 ≤ length word
quoted_long word text q = omega (arith, ap length q.is, units_long q.units (34 ∷ []), ap length q.means, length-map q.units meaning)

plain_long : (word : List ℕ) → is_plain word ≡ true → 1 ≤ length word
plain_long [] t = absurd (bad t)
  where
    bad : false ≡ true → ⊥
    bad e = cc
plain_long (c ∷ cs) t = omega arith

word_long : (kind : Kind) (word text : List ℕ) → Spells kind word → IsTextOf kind word text → heavy_as kind text ≤ length word
word_long Plain word text spells is = plain_long word spells
word_long Qual word text spells is = omega (arith, ap length spells.is, length-append spells.prefix (58 ∷ spells.local))
word_long Quoted word text spells is = quoted_long word text is
word_long Pattern word text (inner, spells) is = omega (arith, ap length spells.is)
word_long Colon word text spells is = omega (arith, ap length spells)
word_long Equals word text spells is = omega (arith, ap length spells)
word_long SquareIn word text spells is = omega (arith, ap length spells)
word_long SquareOut word text spells is = omega (arith, ap length spells)
word_long Angle word text spells is = omega (arith, ap length spells)
word_long AngleSlash word text spells is = omega (arith, ap length spells)
word_long AngleEnd word text spells is = omega (arith, ap length spells)
word_long SlashEnd word text spells is = omega (arith, ap length spells)
word_long End word text spells is = absurd spells
word_long Bad word text spells is = absurd spells

piece_long : (t : Lexeme) (p : Piece) → Spells t.kind t.word → IsPiece t p → heavy p ≤ length t.word
piece_long t p spells is = subst (λ k. heavy_as k p.text ≤ length t.word) (sym is.kind) (word_long t.kind t.word p.text spells is.text)

blanks_long : (bs : List Blank) (rest : List ℕ) → length rest ≤ length (spelt_blanks bs rest)
blanks_long [] rest = omega arith
blanks_long (white c ∷ bs) rest = let more = blanks_long bs rest in omega arith
blanks_long (comment body ∷ bs) rest = omega (arith, length-append body (spelt_blanks bs rest), blanks_long bs rest)

apart_long : (text rest : List ℕ) → IsApart text rest → length rest ≤ length text
apart_long text rest a = omega (arith, ap length a.is, blanks_long a.blanks rest)

-- the tokens of a text weigh no more than the text is long
last_light : (x : Extent) (t : Lexeme) (p : Piece) (rest : List ℕ) → IsLast x t rest → IsPiece t p → heavy p ≡ 0
last_light x t p rest last is = by_kind (or_end (x.whole && is_empty rest) last.kind) is.kind
  where
    or_end : (b : Bool) → t.kind ≡ (if b then End else Bad) → (t.kind ≡ End) ⊎ (t.kind ≡ Bad)
    or_end true e = inl e
    or_end false e = inr e

    by_kind : (t.kind ≡ End) ⊎ (t.kind ≡ Bad) → p.kind ≡ t.kind → heavy p ≡ 0
    by_kind (inl e) same = ap (λ j. heavy_as j p.text) (same ∙ e)
    by_kind (inr e) same = ap (λ j. heavy_as j p.text) (same ∙ e)

rest_light : (x : Extent) (rest : List ℕ) (t : Lexeme) (ts : List Lexeme) (p : Piece) (ps : List Piece) → ((ts ≡ []) × IsLast x t rest) ⊎ ((after : List ℕ) × IsTokenAt rest t.kind t.word after × AreTokensFrom x after ts) → IsPiece t p → ArePieces ts ps → ((after : List ℕ) → AreTokensFrom x after ts → all_heavy ps ≤ length after) → all_heavy (p ∷ ps) ≤ length rest
rest_light x rest t [] p [] (inl (none, last)) is are later = omega (arith, last_light x t p rest last is)
rest_light x rest t [] p (q ∷ ps) (inl (none, last)) is are later = absurd are
rest_light x rest t (u ∷ ts) p ps (inl (none, last)) is are later = absurd (no_cons none)
  where
    no_cons : u ∷ ts ≡ [] → ⊥
    no_cons e = cc
rest_light x rest t ts p ps (inr (after, token, from)) is are later =
    omega (arith, ap length token.begins.is, length-append t.word after, piece_long t p token.begins.spells is, later after from)

tokens_light : (x : Extent) (text : List ℕ) (ts : List Lexeme) (ps : List Piece) → AreTokensFrom x text ts → ArePieces ts ps → all_heavy ps ≤ length text
tokens_light x text [] ps none are = absurd none
tokens_light x text (t ∷ ts) [] from are = absurd are
tokens_light x text (t ∷ ts) (p ∷ ps) (rest, apart, stands, more) are =
    omega (arith, apart_long text rest apart, rest_light x rest t ts p ps more are.0 are.1 (λ after from. tokens_light x after ts ps from are.1))

pub pieces_light : (bytes : List ℕ) (ts : List Lexeme) (ps : List Piece) → AreTokens bytes ts → ArePieces ts ps → all_heavy ps ≤ length bytes
pieces_light bytes [] ps none are = absurd none
pieces_light bytes (t ∷ ts) [] from are = absurd are
pieces_light bytes (t ∷ ts) (p ∷ ps) (rest, apart, stands, more) are =
    omega (arith, rest_light (extent_of bytes) rest t ts p ps more are.0 are.1 (λ after from. tokens_light (extent_of bytes) after ts ps from are.1), length-le-encodes rest, stands.start, utf8_valid_len_le bytes)

-- what is read weighs no more than its tokens
abbrev pub items_weight : List Item → ℕ
items_weight [] = 0
items_weight (i ∷ is) = item_weight i + items_weight is

abbrev pub attr_weight : Attr → ℕ
attr_weight a = items_weight a.value + 3

abbrev pub attrs_weight : List Attr → ℕ
attrs_weight [] = 0
attrs_weight (a ∷ attrs) = attr_weight a + attrs_weight attrs

abbrev pub content_weight : Content → ℕ
content_weight nothing = 0
content_weight (item before i) = content_weight before + item_weight i
content_weight (element before tag attrs inner) = content_weight before + (attrs_weight attrs + (content_weight inner + 2))

abbrev pub unit_weight : UnitOutline → ℕ
unit_weight (terminal name pattern line) = 1
unit_weight (ignorable name pattern normal line) = 1
unit_weight (fence left right line) = 1
unit_weight (production name left right line) = items_weight left + (content_weight right + 1)

abbrev pub units_weight : List UnitOutline → ℕ
units_weight [] = 0
units_weight (u ∷ us) = unit_weight u + units_weight us

kind_heavy : (p : Piece) (k : Kind) → p.kind ≡ k → heavy p ≡ heavy_as k p.text
kind_heavy p k is = ap (λ j. heavy_as j p.text) is

read_item : (i : Item) (ps rest : List Piece) → ReadsItem i ps rest → item_weight i + (all_heavy rest + 1) ≤ all_heavy ps
read_item (Fixed text) ps rest (p, is, string) = omega (arith, ap all_heavy is, kind_heavy p Quoted string.kind, ap length string.text_is)
read_item (Skip name) ps rest (a, b, c, is, in_, named, out) = omega (arith, ap all_heavy is, kind_heavy a SquareIn in_, kind_heavy b Plain named.plain, kind_heavy c SquareOut out)
read_item (Named name slot) ps rest (a, b, c, d, is, in_, named, slotted, out) = omega (arith, ap all_heavy is, kind_heavy a SquareIn in_, kind_heavy b Plain named.plain, kind_heavy c Plain slotted.plain, kind_heavy d SquareOut out)

read_items : (is : List Item) (ps rest : List Piece) → ReadsItems is ps rest → items_weight is + (all_heavy rest + length is) ≤ all_heavy ps
read_items [] ps rest same = omega (arith, ap all_heavy same)
read_items (i ∷ is) ps rest (mid, first, more) = omega (arith, read_item i ps mid first, read_items is mid rest more)

name_heavy : (p : Piece) → (p.kind ≡ Plain) ⊎ (p.kind ≡ Qual) → heavy p ≡ 1
name_heavy p (inl is) = kind_heavy p Plain is
name_heavy p (inr is) = kind_heavy p Qual is

read_attr : (a : Attr) (ps rest : List Piece) → ReadsAttr a ps rest → attr_weight a + all_heavy rest ≤ all_heavy ps
read_attr a ps rest r = let some = r.some in omega (arith, ap all_heavy r.is, name_heavy r.name r.name_is.kind, kind_heavy r.equals Equals r.equals_is, read_items a.value r.next rest r.value)

read_attrs : (attrs : List Attr) (ps rest : List Piece) → ReadsAttrs attrs ps rest → attrs_weight attrs + all_heavy rest ≤ all_heavy ps
read_attrs [] ps rest same = omega (arith, ap all_heavy same)
read_attrs (a ∷ attrs) ps rest (mid, first, more) = omega (arith, read_attr a ps mid first, read_attrs attrs mid rest more)

read_content : (depth : ℕ) (c : Content) (ps rest : List Piece) → ReadsContent depth c ps rest → content_weight c + all_heavy rest ≤ all_heavy ps
read_content depth nothing ps rest same = omega (arith, ap all_heavy same)
read_content depth (item before i) ps rest (mid, front, last) = omega (arith, read_content depth before ps mid front, read_item i mid rest last)
read_content depth (element before tag attrs inner) ps rest (mid, front, low, named, opening, ended, as_, close) =
    by_case close (λ d qs rs r. read_content d inner qs rs r) (read_content depth before ps mid front) (read_attrs attrs named ended as_)
  where
    open_ : all_heavy named + 2 ≤ all_heavy mid
    open_ = omega (arith, ap all_heavy opening.is, kind_heavy opening.angle Angle opening.angle_is, name_heavy opening.name opening.name_is.kind)

    by_case : ((inner ≡ nothing) × ReadsSign SlashEnd ended rest) ⊎ ((inside : List Piece) × ReadsSign AngleEnd ended inside × (closing : List Piece) × ReadsContent (depth + 1) inner inside closing × ReadsClosing tag closing rest) → ((d : ℕ) (qs rs : List Piece) → ReadsContent d inner qs rs → content_weight inner + all_heavy rs ≤ all_heavy qs) → content_weight before + all_heavy mid ≤ all_heavy ps → attrs_weight attrs + all_heavy ended ≤ all_heavy named → content_weight before + (attrs_weight attrs + (content_weight inner + 2)) + all_heavy rest ≤ all_heavy ps
    by_case (inl (none, sign)) inside before_ attrs_ = omega (arith, open_, ap content_weight none, ap all_heavy sign.is, kind_heavy sign.sign SlashEnd sign.kind_is)
    by_case (inr (start, sign, closing, within, end)) inside before_ attrs_ =
        omega (arith, open_, ap all_heavy sign.is, kind_heavy sign.sign AngleEnd sign.kind_is, inside (depth + 1) start closing within, ap all_heavy end.is, kind_heavy end.angle AngleSlash end.angle_is, name_heavy end.name end.name_is.kind, kind_heavy end.end AngleEnd end.end_is)

read_unit : (u : UnitOutline) (ps rest : List Piece) → ReadsUnit u ps rest → unit_weight u + all_heavy rest ≤ all_heavy ps
read_unit (terminal name pattern line) ps rest r = omega (arith, ap all_heavy r.is, kind_heavy r.word Plain r.word_is.plain)
read_unit (ignorable name pattern normal line) ps rest r = omega (arith, ap all_heavy r.is, kind_heavy r.word Plain r.word_is.plain)
read_unit (fence left right line) ps rest r = omega (arith, ap all_heavy r.is, kind_heavy r.word Plain r.word_is.plain)
read_unit (production name left right line) ps rest r =
    omega (arith, ap all_heavy r.is, kind_heavy r.name_piece Plain r.name_is.plain, read_items left r.next r.mid r.left_is, ap all_heavy r.equals_is.is, read_content 0 right r.inside rest r.right_is)

read_units : (us : List UnitOutline) (ps rest : List Piece) → ReadsUnits us ps rest → units_weight us + all_heavy rest ≤ all_heavy ps
read_units [] ps rest same = omega (arith, ap all_heavy same)
read_units (u ∷ us) ps rest (mid, first, more) = omega (arith, read_unit u ps mid first, read_units us mid rest more)

-- the units of a sheet weigh less than its bytes
pub sheet_light : (bytes : List ℕ) (s : Sheet) → IsSheetOf bytes s → units_weight (map unit_outline s.units) + 3 ≤ length bytes
sheet_light bytes s of =
    let r = of.reads in
    omega (arith, pieces_light bytes of.tokens of.pieces of.tokens_are of.pieces_are, ap all_heavy r.is, kind_heavy r.word Plain r.word_is.plain, kind_heavy r.start_word Plain r.start_is.plain, kind_heavy r.name_piece Plain r.name_is.plain, read_units (map unit_outline s.units) r.next r.mid r.units_are)
