-- Attributes, tags and declarations: what is spelt is read.
use Rattle.std.proofs.Common.{◌≡◌, ◌⊎◌, inl, inr, ℕ, zero, suc, ◌≤◌, ◌<◌, List, [], ◌∷◌, ◌++◌, length, length-append, Some, None, true, false, Bool, not, ◌&&◌, ◌||◌, ◌==◌, codes, refl, sym, subst, arith}
use Rattle.std.proofs.lemmas.Bool.Decides.{nat_tests}
use Rattle.xs_xml_laws.specs.Tables.{is_char, is_name_char, is_white, is_quote}
use Rattle.xs_class.specs.Tables.{is_name_start}
use Rattle.xs_xml_laws.specs.Piece.{declaration, start_tag, empty_tag, spelt, spelt_bit, spelt_bits, spelt_attribute, spelt_attributes, is_piece, is_name, is_gap, all_of, Bit, plain, ref, Attribute, is_bit, are_bits, is_attribute, are_attributes, are_settings, distinct}
use Rattle.xs_xml_laws.specs.Scan.{span, bit_at, bits_at, attr_at, attrs_at, piece_at}
use Rattle.xs_xml_laws.proofs.Reading.{stops, span_again, cut_semicolon, ref_plain, white_no_name, name_chars, gap_stops, start_in, name_9, white_out}
use Rattle.xs_class.proofs.Truth.{and_true, or_false, not_true, no_other, eq_self}
use Rattle.xs_class.proofs.Lists.{after_long}

quote_cases : (q : ℕ) → is_quote q ≡ true → (q ≡ 34) ⊎ (q ≡ 39)
unfolding is_quote
quote_cases q is = grind (arith, nat_tests, is)

-- a value
plain_again : (q c : ℕ) (rest : List ℕ) → is_bit q (plain c) ≡ true → bit_at q (c ∷ rest) ≡ Some (plain c, rest)
plain_again q c rest is =
    let p = and_true (is_char c) (not ((c == 60 || c == 38) || c == q)) is in
    let r = or_false (c == 60 || c == 38) (c == q) (not_true ((c == 60 || c == 38) || c == q) p.1) in
    let s = or_false (c == 60) (c == 38) r.0 in
    rw (s.1, s.0, r.1, p.0) refl

bit_again : (q : ℕ) (b : Bit) (rest : List ℕ) → is_bit q b ≡ true → bit_at q (spelt_bit b rest) ≡ Some (b, rest)
bit_again q (plain c) rest is = plain_again q c rest is
bit_again q (ref body) rest is = rw (cut_semicolon body rest (ref_plain body is), is) refl

bit_stop_at : (rest : List ℕ) → (bit_at 34 (34 ∷ rest) ≡ None) × (bit_at 39 (39 ∷ rest) ≡ None)
unfolding is_char
bit_stop_at rest = (refl, refl)

bit_stop : (q : ℕ) (rest : List ℕ) → is_quote q ≡ true → bit_at q (q ∷ rest) ≡ None
bit_stop q rest is = by (quote_cases q is)
  where
    by : (q ≡ 34) ⊎ (q ≡ 39) → bit_at q (q ∷ rest) ≡ None
    by (inl e) = subst (λ (x : ℕ). bit_at x (x ∷ rest) ≡ None) (sym e) (bit_stop_at rest).0
    by (inr e) = subst (λ (x : ℕ). bit_at x (x ∷ rest) ≡ None) (sym e) (bit_stop_at rest).1

bits_next : (n q : ℕ) (b : Bit) (bs : List Bit) (cs rest end : List ℕ) → bit_at q cs ≡ Some (b, rest) → bits_at n q rest ≡ (bs, end) → bits_at (suc n) q cs ≡ (b ∷ bs, end)
bits_next n q b bs cs rest end here again = rw (here, again) refl

bits_again : (n q : ℕ) (bs : List Bit) (rest : List ℕ) → length bs ≤ n → is_quote q ≡ true → are_bits q bs ≡ true → bits_at n q (spelt_bits bs (q ∷ rest)) ≡ (bs, q ∷ rest)
bits_again zero q [] rest few quote are = refl
bits_again (suc n) q [] rest few quote are = rw (bit_stop q rest quote) refl
bits_again zero q (b ∷ bs) rest few quote are = absurd (omega (arith, few))
bits_again (suc n) q (b ∷ bs) rest few quote are = let p = and_true (is_bit q b) (are_bits q bs) are in bits_next n q b bs (spelt_bit b (spelt_bits bs (q ∷ rest))) (spelt_bits bs (q ∷ rest)) (q ∷ rest) (bit_again q b (spelt_bits bs (q ∷ rest)) p.0) (bits_again n q bs rest (omega (arith, few)) quote p.1)

pub bit_long : (b : Bit) (rest : List ℕ) → length rest < length (spelt_bit b rest)
bit_long (plain c) rest = omega arith
bit_long (ref body) rest = omega (arith, length-append body (59 ∷ rest))

bits_long : (bs : List Bit) (rest : List ℕ) → length bs ≤ length (spelt_bits bs rest)
bits_long [] rest = omega arith
bits_long (b ∷ bs) rest = omega (arith, bit_long b (spelt_bits bs rest), bits_long bs rest)

-- an attribute
name_no_white : (c : ℕ) → is_name_start c ≡ true → is_white c ≡ false
name_no_white c is = by (is_white c) refl
  where
    by : (t : Bool) → is_white c ≡ t → t ≡ false
    by true e = let f = white_no_name c e in let g = start_in c is in absurd (cc)
    by false e = refl

name_stops : (n rest : List ℕ) → is_name n ≡ true → stops is_white (n ++ rest) ≡ true
name_stops [] rest is = absurd (cc)
name_stops (c ∷ cs) rest is = let p = and_true (is_name_start c) (all_of is_name_char cs) is in rw (name_no_white c p.0) refl

quotes_no_white : (is_white 34 ≡ false) × (is_white 39 ≡ false)
unfolding is_white
quotes_no_white = (refl, refl)

quote_no_white : (q : ℕ) → is_quote q ≡ true → is_white q ≡ false
quote_no_white q is = by (quote_cases q is)
  where
    by : (q ≡ 34) ⊎ (q ≡ 39) → is_white q ≡ false
    by (inl e) = rw e quotes_no_white.0
    by (inr e) = rw e quotes_no_white.1

gap_all : (gap : List ℕ) → is_gap gap ≡ true → all_of is_white gap ≡ true
gap_all [] is = absurd (cc)
gap_all (g ∷ gs) is = is

attr_again : (a : Attribute) (rest : List ℕ) → is_attribute a ≡ true → attr_at (spelt_attribute a rest) ≡ Some (a, rest)
unfolding attr_at
attr_again a rest is =
    let p1 = and_true (is_gap a.gap) (is_name a.name && (all_of is_white a.left && (all_of is_white a.right && (is_quote a.quote && are_bits a.quote a.value)))) is in
    let p2 = and_true (is_name a.name) (all_of is_white a.left && (all_of is_white a.right && (is_quote a.quote && are_bits a.quote a.value))) p1.1 in
    let p3 = and_true (all_of is_white a.left) (all_of is_white a.right && (is_quote a.quote && are_bits a.quote a.value)) p2.1 in
    let p4 = and_true (all_of is_white a.right) (is_quote a.quote && are_bits a.quote a.value) p3.1 in
    let p5 = and_true (is_quote a.quote) (are_bits a.quote a.value) p4.1 in
    let bits : List ℕ = spelt_bits a.value (a.quote ∷ rest) in
    let s1 = span_again is_white a.gap (a.name ++ (a.left ++ 61 ∷ (a.right ++ a.quote ∷ bits))) (gap_all a.gap p1.0) (name_stops a.name (a.left ++ 61 ∷ (a.right ++ a.quote ∷ bits)) p2.0) in
    let s2 = span_again is_name_char a.name (a.left ++ 61 ∷ (a.right ++ a.quote ∷ bits)) (name_chars a.name p2.0) (gap_stops is_name_char a.left 61 (a.right ++ a.quote ∷ bits) white_no_name p3.0 name_9.7) in
    let s3 = span_again is_white a.left (61 ∷ (a.right ++ a.quote ∷ bits)) p3.0 (rw white_out.3 refl) in
    let s4 = span_again is_white a.right (a.quote ∷ bits) p4.0 (rw (quote_no_white a.quote p5.0) refl) in
    let s5 = bits_again (length bits) a.quote a.value rest (bits_long a.value (a.quote ∷ rest)) p5.0 p5.1 in
    rw (s1, s2, s3, s4, s5, eq_self a.quote, is) refl

-- what ends the attributes
pub record IsEnd (c : ℕ) : Type 0 where
  pub no_white : is_white c ≡ false
  pub no_name : is_name_char c ≡ false
  pub no_equals : (61 == c) ≡ false

attr_stop : (gap : List ℕ) (c : ℕ) (rest : List ℕ) → all_of is_white gap ≡ true → IsEnd c → attr_at (gap ++ c ∷ rest) ≡ None
unfolding attr_at
attr_stop gap c rest all end = rw (span_again is_white gap (c ∷ rest) all (rw end.no_white refl), end.no_name, end.no_white, end.no_equals) refl

attrs_next : (n : ℕ) (b : Attribute) (bs : List Attribute) (cs rest end : List ℕ) → attr_at cs ≡ Some (b, rest) → attrs_at n rest ≡ (bs, end) → attrs_at (suc n) cs ≡ (b ∷ bs, end)
attrs_next n b bs cs rest end here again = rw (here, again) refl

attrs_again : (n : ℕ) (bs : List Attribute) (gap : List ℕ) (c : ℕ) (rest : List ℕ) → length bs ≤ n → are_attributes bs ≡ true → all_of is_white gap ≡ true → IsEnd c → attrs_at n (spelt_attributes bs (gap ++ c ∷ rest)) ≡ (bs, gap ++ c ∷ rest)
attrs_again zero [] gap c rest few are white end = refl
attrs_again (suc n) [] gap c rest few are white end = rw (attr_stop gap c rest white end) refl
attrs_again zero (b ∷ bs) gap c rest few are white end = absurd (omega (arith, few))
attrs_again (suc n) (b ∷ bs) gap c rest few are white end = let p = and_true (is_attribute b) (are_attributes bs) are in attrs_next n b bs (spelt_attribute b (spelt_attributes bs (gap ++ c ∷ rest))) (spelt_attributes bs (gap ++ c ∷ rest)) (gap ++ c ∷ rest) (attr_again b (spelt_attributes bs (gap ++ c ∷ rest)) p.0) (attrs_again n bs gap c rest (omega (arith, few)) p.1 white end)

pub attr_long : (a : Attribute) (rest : List ℕ) → length rest < length (spelt_attribute a rest)
attr_long a rest =
    let bits : List ℕ = spelt_bits a.value (a.quote ∷ rest) in
    let e1 = after_long a.gap (a.name ++ (a.left ++ 61 ∷ (a.right ++ a.quote ∷ bits))) in
    let e2 = after_long a.name (a.left ++ 61 ∷ (a.right ++ a.quote ∷ bits)) in
    let e3 = after_long a.left (61 ∷ (a.right ++ a.quote ∷ bits)) in
    let e4 = after_long a.right (a.quote ∷ bits) in
    let e5 = all_long a.value (a.quote ∷ rest) in
    omega (arith, e1, e2, e3, e4, e5)
  where
    all_long : (bs : List Bit) (end : List ℕ) → length end ≤ length (spelt_bits bs end)
    all_long [] end = omega arith
    all_long (b ∷ bs) end = omega (arith, bit_long b (spelt_bits bs end), all_long bs end)

attrs_long : (bs : List Attribute) (rest : List ℕ) → length bs ≤ length (spelt_attributes bs rest)
attrs_long [] rest = omega arith
attrs_long (b ∷ bs) rest = omega (arith, attr_long b (spelt_attributes bs rest), attrs_long bs rest)

-- a tag and a declaration
attrs_stop : (bs : List Attribute) (gap : List ℕ) (c : ℕ) (rest : List ℕ) → are_attributes bs ≡ true → all_of is_white gap ≡ true → IsEnd c → stops is_name_char (spelt_attributes bs (gap ++ c ∷ rest)) ≡ true
attrs_stop [] gap c rest are white end = gap_stops is_name_char gap c rest white_no_name white end.no_name
attrs_stop (b ∷ bs) gap c rest are white end = by b.gap (and_true (is_gap b.gap) (is_name b.name && (all_of is_white b.left && (all_of is_white b.right && (is_quote b.quote && are_bits b.quote b.value)))) (and_true (is_attribute b) (are_attributes bs) are).0).0
  where
    by : (g : List ℕ) → is_gap g ≡ true → stops is_name_char (g ++ (b.name ++ (b.left ++ 61 ∷ (b.right ++ b.quote ∷ spelt_bits b.value (b.quote ∷ spelt_attributes bs (gap ++ c ∷ rest)))))) ≡ true
    by [] is = absurd (cc)
    by (g ∷ gs) is = rw (white_no_name g (and_true (is_white g) (all_of is_white gs) is).0) refl

end_62 : IsEnd 62
end_62 = record { no_white = white_out.0; no_name = name_9.4; no_equals = refl }

end_47 : IsEnd 47
end_47 = record { no_white = white_out.1; no_name = name_9.5; no_equals = refl }

end_63 : IsEnd 63
end_63 = record { no_white = white_out.2; no_name = name_9.6; no_equals = refl }

-- a name does not begin as other markup does
no_markup : (is_name_start 47 ≡ false) × (is_name_start 33 ≡ false) × (is_name_start 63 ≡ false)
unfolding is_name_start
no_markup = (refl, refl, refl)

-- the parts of a tag up to its end, where its name begins with c
record IsTagRead (c : ℕ) (cs : List ℕ) (bs : List Attribute) (gap left : List ℕ) : Type 0 where
  no_slash : (c == 47) ≡ false
  no_bang : (c == 33) ≡ false
  no_question : (c == 63) ≡ false
  name : span is_name_char ((c ∷ cs) ++ spelt_attributes bs (gap ++ left)) ≡ (c ∷ cs, spelt_attributes bs (gap ++ left))
  attributes : attrs_at (length (spelt_attributes bs (gap ++ left))) (spelt_attributes bs (gap ++ left)) ≡ (bs, gap ++ left)
  white : span is_white (gap ++ left) ≡ (gap, left)

tag_read : (c : ℕ) (cs : List ℕ) (bs : List Attribute) (gap : List ℕ) (e : ℕ) (rest : List ℕ) → IsEnd e → (is_name (c ∷ cs) && (are_attributes bs && (distinct bs && all_of is_white gap))) ≡ true → IsTagRead c cs bs gap (e ∷ rest)
tag_read c cs bs gap e rest end is =
    let p1 = and_true (is_name (c ∷ cs)) (are_attributes bs && (distinct bs && all_of is_white gap)) is in
    let p2 = and_true (are_attributes bs) (distinct bs && all_of is_white gap) p1.1 in
    let p3 = and_true (distinct bs) (all_of is_white gap) p2.1 in
    let first = (and_true (is_name_start c) (all_of is_name_char cs) p1.0).0 in
    record {
      no_slash = no_other is_name_start c 47 first no_markup.0;
      no_bang = no_other is_name_start c 33 first no_markup.1;
      no_question = no_other is_name_start c 63 first no_markup.2;
      name = span_again is_name_char (c ∷ cs) (spelt_attributes bs (gap ++ e ∷ rest)) (name_chars (c ∷ cs) p1.0) (attrs_stop bs gap e rest p2.0 p3.1 end);
      attributes = attrs_again (length (spelt_attributes bs (gap ++ e ∷ rest))) bs gap e rest (attrs_long bs (gap ++ e ∷ rest)) p2.0 p3.1 end;
      white = span_again is_white gap (e ∷ rest) p3.1 (rw end.no_white refl);
    }

pub start_read : (n : List ℕ) (bs : List Attribute) (gap rest : List ℕ) → is_piece (start_tag n bs gap) ≡ true → piece_at (spelt (start_tag n bs gap) rest) ≡ Some (start_tag n bs gap, rest)
unfolding piece_at
start_read [] bs gap rest is = absurd (cc)
start_read (c ∷ cs) bs gap rest is = let t = tag_read c cs bs gap 62 rest end_62 is in rw (t.no_slash, t.no_bang, t.no_question, t.name, t.attributes, t.white, is) refl

pub empty_read : (n : List ℕ) (bs : List Attribute) (gap rest : List ℕ) → is_piece (empty_tag n bs gap) ≡ true → piece_at (spelt (empty_tag n bs gap) rest) ≡ Some (empty_tag n bs gap, rest)
unfolding piece_at
empty_read [] bs gap rest is = absurd (cc)
empty_read (c ∷ cs) bs gap rest is = let t = tag_read c cs bs gap 47 (62 ∷ rest) end_47 is in rw (t.no_slash, t.no_bang, t.no_question, t.name, t.attributes, t.white, is) refl

xml_chars : all_of is_name_char (codes "xml") ≡ true
unfolding is_name_char is_name_start
xml_chars = refl

pub declaration_read : (bs : List Attribute) (gap rest : List ℕ) → is_piece (declaration bs gap) ≡ true → piece_at (spelt (declaration bs gap) rest) ≡ Some (declaration bs gap, rest)
unfolding piece_at
declaration_read bs gap rest is =
    let p1 = and_true (are_attributes bs) (are_settings bs && all_of is_white gap) is in
    let p2 = and_true (are_settings bs) (all_of is_white gap) p1.1 in
    let s1 = span_again is_name_char (codes "xml") (spelt_attributes bs (gap ++ 63 ∷ 62 ∷ rest)) xml_chars (attrs_stop bs gap 63 (62 ∷ rest) p1.0 p2.1 end_63) in
    let s2 = attrs_again (length (spelt_attributes bs (gap ++ 63 ∷ 62 ∷ rest))) bs gap 63 (62 ∷ rest) (attrs_long bs (gap ++ 63 ∷ 62 ∷ rest)) p1.0 p2.1 end_63 in
    let s3 = span_again is_white gap (63 ∷ 62 ∷ rest) p2.1 (rw white_out.2 refl) in
    rw (s1, s2, s3, is) refl
