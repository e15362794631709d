-- The symbols of a document are no more than its characters.
use Rattle.std.proofs.Common.{◌≡◌, ℕ, ◌+◌, ◌≤◌, List, [], ◌∷◌, ◌++◌, length, length-append, Bool, true, false, ◌==◌, ◌&&◌, if◌then◌else◌, Some, None, refl, ◌∙◌, ap, arith}
use Rattle.std.specs.declared.option.Option.{Option}
use Rattle.std.specs.declared.cmp.Ordering.{Ordering}
use Rattle.std.specs.declared.cmp.Ordering.TheVariants.{Less, Equal, Greater}
use Rattle.std.specs.Ordering.{match_ordering}
use Rattle.xs_class.specs.Marks.{attr_end}
use Rattle.xs_xml_laws.specs.Tables.{is_white}
use Rattle.xs_xml_laws.specs.Piece.{Piece, Attribute, Bit, plain, ref, declaration, character, line_end, reference, start_tag, empty_tag, end_tag, comment, instruction, cdata, spelt, spelt_bits, spelt_attribute, spelt_attributes}
use Rattle.xs_xml_laws.specs.Legal.{Spot, ahead, inside, beyond, passed, spelt_all}
use Rattle.xs_xml_laws.specs.Reads.{Reads, lines, value, closing, name_order, placed, in_order, attribute_symbols, char_symbols, symbols, all_symbols}
use Rattle.xs_xml_laws.proofs.Greatest.{all_long, piece_long}
use Rattle.xs_class.proofs.Lists.{after_long}

if_short : (t : Bool) (x y : List ℕ) (k : ℕ) → length x ≤ k → length y ≤ k → length (if t then x else y) ≤ k
if_short true x y k a b = a
if_short false x y k a b = b

-- the characters of a section, and the bits of a value
lines_short : (cr : Bool) (cs : List ℕ) → length (lines cr cs) ≤ length cs
lines_short cr [] = omega arith
lines_short cr (c ∷ cs) =
    let a = lines_short false cs in
    let b = lines_short (c == 13) cs in
    if_short (c == 10 && cr) (lines false cs) ((if c == 13 then 10 else c) ∷ lines (c == 13) cs) (length (c ∷ cs)) (omega (arith, a)) (omega (arith, b))

value_short : (cr : Bool) (bs : List Bit) (rest : List ℕ) → length (value cr bs ++ rest) ≤ length (spelt_bits bs rest)
value_short cr [] rest = omega arith
value_short cr (plain c ∷ bs) rest =
    let a = value_short false bs rest in
    let b = value_short (c == 13) bs rest in
    by (c == 10 && cr) a b
  where
    by : (t : Bool) → length (value false bs ++ rest) ≤ length (spelt_bits bs rest) → length (value (c == 13) bs ++ rest) ≤ length (spelt_bits bs rest) → length ((if t then value false bs else ((if is_white c then 32 else c) ∷ value (c == 13) bs)) ++ rest) ≤ length (c ∷ spelt_bits bs rest)
    by true a b = omega (arith, a)
    by false a b = omega (arith, b)
value_short cr (ref body ∷ bs) rest =
    let a = value_short false bs rest in
    let b = after_long body (59 ∷ spelt_bits bs rest) in
    omega (arith, a, b)

-- an attribute has more characters than symbols
attribute_short : (a : Attribute) (rest : List ℕ) → length (value false a.value ++ rest) + 2 ≤ length (spelt_attribute a rest)
attribute_short a rest =
    let inner = spelt_bits a.value (a.quote ∷ rest) in
    let v = value_short false a.value (a.quote ∷ rest) in
    let w = length-append (value false a.value) rest in
    let x = length-append (value false a.value) (a.quote ∷ rest) in
    let r = after_long a.right (a.quote ∷ inner) in
    let l = after_long a.left (61 ∷ (a.right ++ a.quote ∷ inner)) in
    let n = after_long a.name (a.left ++ 61 ∷ (a.right ++ a.quote ∷ inner)) in
    let g = after_long a.gap (a.name ++ (a.left ++ 61 ∷ (a.right ++ a.quote ∷ inner))) in
    omega (arith, v, w, x, r, l, n, g)

attributes_short : (names : List (List ℕ)) (bs : List Attribute) (rest : List ℕ) → length (attribute_symbols names bs) + length rest ≤ length (spelt_attributes bs rest)
attributes_short names [] rest = omega arith
attributes_short names (b ∷ bs) rest =
    let a = attribute_short b (spelt_attributes bs rest) in
    let v = length-append (value false b.value) (spelt_attributes bs rest) in
    let w = length-append (value false b.value) (attr_end ∷ attribute_symbols names bs) in
    let h = attributes_short names bs rest in
    omega (arith, a, v, w, h)

-- the order of attributes does not change how many symbols they give
attribute_more : (names : List (List ℕ)) (a : Attribute) (bs cs : List Attribute) → length (attribute_symbols names bs) ≡ length (attribute_symbols names cs) → length (attribute_symbols names (a ∷ bs)) ≡ length (attribute_symbols names (a ∷ cs))
attribute_more names a bs cs same =
    let v = length-append (value false a.value) (attr_end ∷ attribute_symbols names bs) in
    let w = length-append (value false a.value) (attr_end ∷ attribute_symbols names cs) in
    omega (arith, v, w, same)

attribute_swap : (names : List (List ℕ)) (a b : Attribute) (bs : List Attribute) → length (attribute_symbols names (b ∷ a ∷ bs)) ≡ length (attribute_symbols names (a ∷ b ∷ bs))
attribute_swap names a b bs =
    let tail = attribute_symbols names bs in
    let v = length-append (value false a.value) (attr_end ∷ tail) in
    let w = length-append (value false b.value) (attr_end ∷ tail) in
    let x = length-append (value false a.value) (attr_end ∷ attribute_symbols names (b ∷ bs)) in
    let y = length-append (value false b.value) (attr_end ∷ attribute_symbols names (a ∷ bs)) in
    omega (arith, v, w, x, y)

placed_same : (names : List (List ℕ)) (a : Attribute) (bs : List Attribute) → length (attribute_symbols names (placed a bs)) ≡ length (attribute_symbols names (a ∷ bs))
placed_same names a [] = refl
placed_same names a (b ∷ bs) = by (name_order a.name b.name) (attribute_more names b (placed a bs) (a ∷ bs) (placed_same names a bs) ∙ attribute_swap names a b bs)
  where
    by : (o : Ordering) → length (attribute_symbols names (b ∷ placed a bs)) ≡ length (attribute_symbols names (a ∷ b ∷ bs)) → length (attribute_symbols names (match_ordering o (a ∷ b ∷ bs) (a ∷ b ∷ bs) (b ∷ placed a bs))) ≡ length (attribute_symbols names (a ∷ b ∷ bs))
    by Less later = refl
    by Equal later = refl
    by Greater later = later

in_order_same : (names : List (List ℕ)) (bs : List Attribute) → length (attribute_symbols names (in_order bs)) ≡ length (attribute_symbols names bs)
in_order_same names [] = refl
in_order_same names (b ∷ bs) = placed_same names b (in_order bs) ∙ attribute_more names b (in_order bs) bs (in_order_same names bs)

-- each piece gives no more symbols than it has characters
char_short : (s : Spot) (w : List ℕ) → length (char_symbols s w) ≤ length w
char_short ahead w = omega arith
char_short (inside m ms) w = omega arith
char_short beyond w = omega arith

piece_short : (names : List (List ℕ)) (s : Spot) (p : Piece) (rest : List ℕ) → length (symbols names s p) + length rest ≤ length (spelt p rest)
piece_short names s (declaration bs gap) rest = let a = piece_long (declaration bs gap) rest in omega (arith, a)
piece_short names s (character c) rest = by (c == 13)
  where
    by : (t : Bool) → length (char_symbols s (if t then 10 ∷ [] else c ∷ [])) + length rest ≤ length (c ∷ rest)
    by true = let a = char_short s (10 ∷ []) in omega (arith, a)
    by false = let a = char_short s (c ∷ []) in omega (arith, a)
piece_short names s line_end rest = let a = char_short s (10 ∷ []) in omega (arith, a)
piece_short names s (reference body) rest = let a = after_long body (59 ∷ rest) in omega (arith, a)
piece_short names s (start_tag n bs gap) rest =
    let a = attributes_short names bs (gap ++ 62 ∷ rest) in
    let b = after_long gap (62 ∷ rest) in
    let c = after_long n (spelt_attributes bs (gap ++ 62 ∷ rest)) in
    let o = in_order_same names bs in
    omega (arith, a, b, c, o)
piece_short names s (empty_tag n bs gap) rest =
    let a = attributes_short names bs (gap ++ 47 ∷ 62 ∷ rest) in
    let b = after_long gap (47 ∷ 62 ∷ rest) in
    let c = after_long n (spelt_attributes bs (gap ++ 47 ∷ 62 ∷ rest)) in
    let o = in_order_same names bs in
    let e = length-append (attribute_symbols names (in_order bs)) (closing names n ∷ []) in
    omega (arith, a, b, c, o, e)
piece_short names s (end_tag n gap) rest =
    let b = after_long gap (62 ∷ rest) in
    let c = after_long n (gap ++ 62 ∷ rest) in
    omega (arith, b, c)
piece_short names s (comment body) rest = let a = piece_long (comment body) rest in omega (arith, a)
piece_short names s (instruction n body) rest = let a = piece_long (instruction n body) rest in omega (arith, a)
piece_short names s (cdata body) rest =
    let a = lines_short false body in
    let b = length-append body (93 ∷ 93 ∷ 62 ∷ rest) in
    omega (arith, a, b)

all_short : (names : List (List ℕ)) (o : Option Spot) (ps : List Piece) (rest : List ℕ) → length (all_symbols names o ps) + length rest ≤ length (spelt_all ps rest)
all_short names o [] rest = omega arith
all_short names None (p ∷ ps) rest = let a = all_long (p ∷ ps) rest in omega (arith, a)
all_short names (Some s) (p ∷ ps) rest =
    let a = piece_short names s p (spelt_all ps rest) in
    let b = all_short names (passed s p) ps rest in
    let c = length-append (symbols names s p) (all_symbols names (passed s p) ps) in
    omega (arith, a, b, c)

-- what is read of a document is no longer than it
pub reads_short : (names : List (List ℕ)) (doc w : List ℕ) → Reads names doc w → length w ≤ length doc
reads_short names doc w r =
    let a = all_short names (Some ahead) r.pieces [] in
    let g : length w ≡ length (all_symbols names (Some ahead) r.pieces) = ap length r.gives in
    let s : length doc ≡ length (spelt_all r.pieces []) = ap length r.legal.spells in
    omega (arith, a, g, s)
