-- How a piece is read from the front of a list of characters: a function, so that a place has one piece.
use Rattle.std.specs.Prelude.{ℕ, zero, suc, List, [], ◌∷◌, length, drop, codes, None, Some, if◌then◌else◌, ◌==◌, ◌&&◌, Bool, true, false}
use Rattle.std.specs.declared.option.Option.{Option}
use Rattle.xs_xml_laws.specs.Tables.{is_name_char, is_white}
use Rattle.xs_xml_laws.specs.Piece.{Piece, declaration, character, line_end, reference, start_tag, empty_tag, end_tag, comment, instruction, cdata, is_piece, starts, same, Bit, plain, ref, Attribute, is_bit, is_attribute}

-- the characters of a class at the front, what stands after a prefix, and what stands before a first delimiter and after it
abbrev pub span : (ℕ → Bool) → List ℕ → List ℕ × List ℕ
span f [] = ([], [])
span f (c ∷ cs) = if f c then (c ∷ (span f cs).0, (span f cs).1) else ([], c ∷ cs)

abbrev pub after : List ℕ → List ℕ → Option (List ℕ)
after [] cs = Some cs
after (p ∷ ps) [] = None
after (p ∷ ps) (c ∷ cs) = if p == c then after ps cs else None

abbrev pub joined : ℕ → Option (List ℕ × List ℕ) → Option (List ℕ × List ℕ)
joined c None = None
joined c (Some r) = Some (c ∷ r.0, r.1)

abbrev pub cut : List ℕ → List ℕ → Option (List ℕ × List ℕ)
cut d [] = None
cut d (c ∷ cs) = if starts d (c ∷ cs) then Some ([], drop (length d) (c ∷ cs)) else joined c (cut d cs)

abbrev pub Found : Type 0
Found = Option (Piece × List ℕ)

infixl 10 ◌>>=◌
abbrev pub ◌>>=◌ : {A B : Type 0} → Option A → (A → Option B) → Option B
None >>= f = None
(Some x) >>= f = f x

abbrev pub kept_if : Bool → Piece → List ℕ → Found
kept_if true p rest = Some (p, rest)
kept_if false p rest = None

abbrev pub kept : Piece → List ℕ → Found
kept p rest = kept_if (is_piece p) p rest

abbrev pub char_at : ℕ → List ℕ → Found
char_at c [] = kept (character c) []
char_at c (d ∷ cs) = if c == 13 && d == 10 then Some (line_end, cs) else kept (character c) (d ∷ cs)

abbrev pub as_reference : List ℕ × List ℕ → Found
as_reference r = kept (reference r.0) r.1

abbrev pub reference_at : List ℕ → Found
reference_at cs = cut (codes ";") cs >>= as_reference

abbrev pub as_end : List ℕ → List ℕ → List ℕ → Found
as_end n gap rest = kept (end_tag n gap) rest

abbrev pub end_gap : List ℕ → List ℕ × List ℕ → Found
end_gap n r = after (codes ">") r.1 >>= as_end n r.0

abbrev pub end_name : List ℕ × List ℕ → Found
end_name r = end_gap r.0 (span is_white r.1)

abbrev pub end_at : List ℕ → Found
end_at cs = end_name (span is_name_char cs)

abbrev pub as_cdata : List ℕ × List ℕ → Found
as_cdata r = kept (cdata r.0) r.1

abbrev pub in_cdata : List ℕ → Found
in_cdata cs = cut (codes "]]>") cs >>= as_cdata

abbrev pub as_comment : List ℕ → List ℕ → Found
as_comment body rest = kept (comment body) rest

abbrev pub comment_end : List ℕ × List ℕ → Found
comment_end r = after (codes ">") r.1 >>= as_comment r.0

abbrev pub in_comment : List ℕ → Found
in_comment cs = cut (codes "--") cs >>= comment_end

abbrev pub bang_at : List ℕ → Found
bang_at [] = None
bang_at (c ∷ cs) = if c == 45 then after (codes "-") cs >>= in_comment else after (codes "[CDATA[") (c ∷ cs) >>= in_cdata

abbrev pub as_instruction : List ℕ → List ℕ × List ℕ → Found
as_instruction n r = kept (instruction n r.0) r.1

-- a value: bits as long as there are some; at most n
abbrev pub bit_if : Bool → Bit → List ℕ → Option (Bit × List ℕ)
bit_if true b rest = Some (b, rest)
bit_if false b rest = None

abbrev pub as_ref : ℕ → List ℕ × List ℕ → Option (Bit × List ℕ)
as_ref q r = bit_if (is_bit q (ref r.0)) (ref r.0) r.1

abbrev pub bit_at : ℕ → List ℕ → Option (Bit × List ℕ)
bit_at q [] = None
bit_at q (c ∷ cs) = if c == 38 then cut (codes ";") cs >>= as_ref q else bit_if (is_bit q (plain c)) (plain c) cs

abbrev pub more : {A : Type 0} → (List ℕ → List A × List ℕ) → List ℕ → Option (A × List ℕ) → List A × List ℕ
more go cs None = ([], cs)
more go cs (Some b) = (b.0 ∷ (go b.1).0, (go b.1).1)

abbrev pub bits_at : ℕ → ℕ → List ℕ → List Bit × List ℕ
bits_at zero q cs = ([], cs)
bits_at (suc n) q cs = more (λ r. bits_at n q r) cs (bit_at q cs)

-- an attribute
abbrev pub attr_if : Bool → Attribute → List ℕ → Option (Attribute × List ℕ)
attr_if true a rest = Some (a, rest)
attr_if false a rest = None

abbrev pub as_attr : Attribute → List ℕ → Option (Attribute × List ℕ)
as_attr a rest = attr_if (is_attribute a) a rest

abbrev pub attr_value : List ℕ → List ℕ → List ℕ → List ℕ → ℕ → List Bit × List ℕ → Option (Attribute × List ℕ)
attr_value gap n left right q r = after (q ∷ []) r.1 >>= as_attr (record { gap = gap; name = n; left = left; right = right; quote = q; value = r.0 })

abbrev pub attr_quote : List ℕ → List ℕ → List ℕ → List ℕ × List ℕ → Option (Attribute × List ℕ)
attr_quote gap n left (right, []) = None
attr_quote gap n left (right, q ∷ cs) = attr_value gap n left right q (bits_at (length cs) q cs)

abbrev pub attr_right : List ℕ → List ℕ → List ℕ → List ℕ → Option (Attribute × List ℕ)
attr_right gap n left cs = attr_quote gap n left (span is_white cs)

abbrev pub attr_left : List ℕ → List ℕ → List ℕ × List ℕ → Option (Attribute × List ℕ)
attr_left gap n r = after (codes "=") r.1 >>= attr_right gap n r.0

abbrev pub attr_name : List ℕ → List ℕ × List ℕ → Option (Attribute × List ℕ)
attr_name gap r = attr_left gap r.0 (span is_white r.1)

abbrev pub attr_gap : List ℕ × List ℕ → Option (Attribute × List ℕ)
attr_gap r = attr_name r.0 (span is_name_char r.1)

unfoldable pub attr_at : List ℕ → Option (Attribute × List ℕ)
attr_at cs = attr_gap (span is_white cs)

abbrev pub attrs_at : ℕ → List ℕ → List Attribute × List ℕ
attrs_at zero cs = ([], cs)
attrs_at (suc n) cs = more (λ r. attrs_at n r) cs (attr_at cs)

-- tags
abbrev pub tag_end : List ℕ → List Attribute → List ℕ × List ℕ → Found
tag_end n as_ (gap, []) = None
tag_end n as_ (gap, c ∷ cs) = if c == 62 then kept (start_tag n as_ gap) cs else after (codes "/>") (c ∷ cs) >>= kept (empty_tag n as_ gap)

abbrev pub tag_attrs : List ℕ → List Attribute × List ℕ → Found
tag_attrs n r = tag_end n r.0 (span is_white r.1)

abbrev pub tag_name : List ℕ × List ℕ → Found
tag_name r = tag_attrs r.0 (attrs_at (length r.1) r.1)

abbrev pub tag_at : List ℕ → Found
tag_at cs = tag_name (span is_name_char cs)

-- instructions and declarations
abbrev pub declaration_end : List Attribute → List ℕ × List ℕ → Found
declaration_end as_ r = after (codes "?>") r.1 >>= kept (declaration as_ r.0)

abbrev pub declaration_attrs : List Attribute × List ℕ → Found
declaration_attrs r = declaration_end r.0 (span is_white r.1)

abbrev pub instruction_name : List ℕ × List ℕ → Found
instruction_name r = if same r.0 (codes "xml") then declaration_attrs (attrs_at (length r.1) r.1) else cut (codes "?>") r.1 >>= as_instruction r.0

abbrev pub instruction_at : List ℕ → Found
instruction_at cs = instruction_name (span is_name_char cs)

-- what stands after <
abbrev pub markup_at : List ℕ → Found
markup_at [] = None
markup_at (c ∷ cs) = if c == 47 then end_at cs else (if c == 33 then bang_at cs else (if c == 63 then instruction_at cs else tag_at (c ∷ cs)))

unfoldable pub piece_at : List ℕ → Found
piece_at [] = None
piece_at (c ∷ cs) = if c == 60 then markup_at cs else (if c == 38 then reference_at cs else char_at c cs)

-- what stands before, put before what a cut finds
abbrev pub fronted : List ℕ → Option (List ℕ × List ℕ) → Option (List ℕ × List ℕ)
fronted [] o = o
fronted (c ∷ cs) o = joined c (fronted cs o)
