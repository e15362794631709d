-- What is spelt is read, and what is read is spelt.
use Rattle.std.proofs.Common.{◌≡◌, ◌⊎◌, inl, inr, ℕ, map, List, [], ◌∷◌, ◌++◌, Some, None, true, false, Bool, not, ◌&&◌, ◌||◌, if◌then◌else◌, ◌==◌, codes, refl, ap, subst, arith, eqb-true, is_some}
use Rattle.std.proofs.lemmas.Bool.Decides.{nat_tests}
use Rattle.xs_xml_laws.specs.Tables.{is_char, is_name_char, is_white, is_digit, is_hex}
use Rattle.xs_xml_laws.specs.Piece.{lower, when, number, numbered, named, character, line_end, reference, end_tag, comment, instruction, cdata, spelt, is_piece, is_name, all_of, starts, holds, same, ends_not, ref_char, is_apart}
use Rattle.xs_xml_laws.specs.Legal.{is_alone}
use Rattle.xs_xml_laws.specs.Scan.{span, cut, piece_at}
use Rattle.xs_class.proofs.Truth.{and_true, both_true, not_true, and_no, or_false}
use Rattle.xs_class.specs.Tables.{is_name_start}
pub use Rattle.xs_class.proofs.Words.{same_is}

-- spans
abbrev pub stops : (ℕ → Bool) → List ℕ → Bool
stops f [] = true
stops f (c ∷ cs) = not (f c)

span_next : (f : ℕ → Bool) (n : ℕ) (ns rest : List ℕ) → f n ≡ true → span f (ns ++ rest) ≡ (ns, rest) → span f (n ∷ (ns ++ rest)) ≡ (n ∷ ns, rest)
span_next f n ns rest is again = rw (is, again) refl

pub span_again : (f : ℕ → Bool) (ns rest : List ℕ) → all_of f ns ≡ true → stops f rest ≡ true → span f (ns ++ rest) ≡ (ns, rest)
span_again f [] [] all stop = refl
span_again f [] (c ∷ cs) all stop = rw (not_true (f c) stop) refl
span_again f (n ∷ ns) rest all stop = let p = and_true (f n) (all_of f ns) all in span_next f n ns rest p.0 (span_again f ns rest p.1 stop)

-- delimiters
cut_next : (d : List ℕ) (b : ℕ) (bs cs rest : List ℕ) → starts d (b ∷ cs) ≡ false → cut d cs ≡ Some (bs, rest) → cut d (b ∷ cs) ≡ Some (b ∷ bs, rest)
cut_next d b bs cs rest not_here again = rw (not_here, again) refl

not_yet_cdata : (b : ℕ) (bs rest : List ℕ) → starts (codes "]]>") (b ∷ bs) ≡ false → starts (codes "]]>") (b ∷ (bs ++ (codes "]]>" ++ rest))) ≡ false
not_yet_cdata b [] rest is = and_no (93 == b)
not_yet_cdata b (c ∷ []) rest is = rw (and_no (93 == c)) (and_no (93 == b))
not_yet_cdata b (c ∷ e ∷ es) rest is = is

pub cut_cdata : (body rest : List ℕ) → holds (codes "]]>") body ≡ false → cut (codes "]]>") (body ++ (codes "]]>" ++ rest)) ≡ Some (body, rest)
cut_cdata [] rest none = refl
cut_cdata (b ∷ bs) rest none = let p = or_false (starts (codes "]]>") (b ∷ bs)) (holds (codes "]]>") bs) none in cut_next (codes "]]>") b bs (bs ++ (codes "]]>" ++ rest)) rest (not_yet_cdata b bs rest p.0) (cut_cdata bs rest p.1)

not_yet_ask : (b : ℕ) (bs rest : List ℕ) → starts (codes "?>") (b ∷ bs) ≡ false → starts (codes "?>") (b ∷ (bs ++ (codes "?>" ++ rest))) ≡ false
not_yet_ask b [] rest is = and_no (63 == b)
not_yet_ask b (c ∷ cs) rest is = is

pub cut_ask : (body rest : List ℕ) → holds (codes "?>") body ≡ false → cut (codes "?>") (body ++ (codes "?>" ++ rest)) ≡ Some (body, rest)
cut_ask [] rest none = refl
cut_ask (b ∷ bs) rest none = let p = or_false (starts (codes "?>") (b ∷ bs)) (holds (codes "?>") bs) none in cut_next (codes "?>") b bs (bs ++ (codes "?>" ++ rest)) rest (not_yet_ask b bs rest p.0) (cut_ask bs rest p.1)

not_yet_dashes : (b : ℕ) (bs rest : List ℕ) → starts (codes "--") (b ∷ bs) ≡ false → ends_not 45 (b ∷ bs) ≡ true → starts (codes "--") (b ∷ (bs ++ (codes "-->" ++ rest))) ≡ false
not_yet_dashes b [] rest is end = let h = not_true (b == 45) end in grind (arith, nat_tests)
not_yet_dashes b (c ∷ cs) rest is end = is

ends_tail : (b : ℕ) (bs : List ℕ) → ends_not 45 (b ∷ bs) ≡ true → ends_not 45 bs ≡ true
ends_tail b [] end = refl
ends_tail b (c ∷ cs) end = end

pub cut_dashes : (body rest : List ℕ) → holds (codes "--") body ≡ false → ends_not 45 body ≡ true → cut (codes "--") (body ++ (codes "-->" ++ rest)) ≡ Some (body, 62 ∷ rest)
cut_dashes [] rest none end = refl
cut_dashes (b ∷ bs) rest none end = let p = or_false (starts (codes "--") (b ∷ bs)) (holds (codes "--") bs) none in cut_next (codes "--") b bs (bs ++ (codes "-->" ++ rest)) (62 ∷ rest) (not_yet_dashes b bs rest p.0 end) (cut_dashes bs rest p.1 (ends_tail b bs end))

-- a reference's inside has no semicolon
no_semicolon : List ℕ → Type 0
no_semicolon body = all_of (λ c. not (59 == c)) body ≡ true

pub cut_semicolon : (body rest : List ℕ) → all_of (λ c. not (59 == c)) body ≡ true → cut (codes ";") (body ++ 59 ∷ rest) ≡ Some (body, rest)
cut_semicolon [] rest none = refl
cut_semicolon (b ∷ bs) rest none = let p = and_true (not (59 == b)) (all_of (λ c. not (59 == c)) bs) none in cut_next (codes ";") b bs (bs ++ 59 ∷ rest) rest (rw (not_true (59 == b) p.0) refl) (cut_semicolon bs rest p.1)

is_not_semicolon : (f : ℕ → Bool) (c : ℕ) → f 59 ≡ false → f c ≡ true → not (59 == c) ≡ true
is_not_semicolon f c out is_so = by (59 == c) refl
  where
    by : (t : Bool) → (59 == c) ≡ t → not t ≡ true
    by true e = let q : 59 ≡ c = eqb-true 59 c e in let g : f 59 ≡ f c = ap f q in absurd (cc)
    by false e = refl

plain_all : (f : ℕ → Bool) (cs : List ℕ) → f 59 ≡ false → all_of f cs ≡ true → all_of (λ c. not (59 == c)) cs ≡ true
plain_all f [] out all = refl
plain_all f (c ∷ cs) out all = let p = and_true (f c) (all_of f cs) all in both_true (not (59 == c)) (all_of (λ c. not (59 == c)) cs) (is_not_semicolon f c out p.0) (plain_all f cs out p.1)

when_is : (t : Bool) (n : ℕ) → is_some (when t n) ≡ true → t ≡ true
when_is true n is = refl
when_is false n is = absurd (cc)

named_plain : (body : List ℕ) (n1 n2 n3 n4 n5 : List ℕ) → all_of (λ c. not (59 == c)) n1 ≡ true → all_of (λ c. not (59 == c)) n2 ≡ true → all_of (λ c. not (59 == c)) n3 ≡ true → all_of (λ c. not (59 == c)) n4 ≡ true → all_of (λ c. not (59 == c)) n5 ≡ true → is_some (named body ((n1, 60) ∷ (n2, 62) ∷ (n3, 38) ∷ (n4, 39) ∷ (n5, 34) ∷ [])) ≡ true → all_of (λ c. not (59 == c)) body ≡ true
named_plain body n1 n2 n3 n4 n5 p1 p2 p3 p4 p5 is = by (same body n1) (same body n2) (same body n3) (same body n4) (same body n5) refl refl refl refl refl is
  where
    to : (n : List ℕ) → same body n ≡ true → all_of (λ c. not (59 == c)) n ≡ true → all_of (λ c. not (59 == c)) body ≡ true
    to n e p = rw (same_is body n e) p

    by : (t1 t2 t3 t4 t5 : Bool) → same body n1 ≡ t1 → same body n2 ≡ t2 → same body n3 ≡ t3 → same body n4 ≡ t4 → same body n5 ≡ t5 → is_some {T = ℕ} (if t1 then Some 60 else (if t2 then Some 62 else (if t3 then Some 38 else (if t4 then Some 39 else (if t5 then Some 34 else None))))) ≡ true → all_of (λ c. not (59 == c)) body ≡ true
    by true t2 t3 t4 t5 e1 e2 e3 e4 e5 h = to n1 e1 p1
    by false true t3 t4 t5 e1 e2 e3 e4 e5 h = to n2 e2 p2
    by false false true t4 t5 e1 e2 e3 e4 e5 h = to n3 e3 p3
    by false false false true t5 e1 e2 e3 e4 e5 h = to n4 e4 p4
    by false false false false true e1 e2 e3 e4 e5 h = to n5 e5 p5
    by false false false false false e1 e2 e3 e4 e5 h = absurd (cc)

digit_out : is_digit 59 ≡ false
unfolding is_digit
digit_out = refl

hex_out : is_hex 59 ≡ false
unfolding is_hex
hex_out = refl

numbered_plain : (cs : List ℕ) → is_some (numbered cs) ≡ true → all_of (λ c. not (59 == c)) cs ≡ true
numbered_plain [] is = absurd (cc)
numbered_plain (c ∷ cs) is = by (c == 120) refl is
  where
    by : (t : Bool) → (c == 120) ≡ t → is_some {T = ℕ} (if t then when (all_of is_hex cs && is_char (number 16 0 cs)) (number 16 0 cs) else when (all_of is_digit (c ∷ cs) && is_char (number 10 0 (c ∷ cs))) (number 10 0 (c ∷ cs))) ≡ true → all_of (λ c. not (59 == c)) (c ∷ cs) ≡ true
    by true e h = let q : c ≡ 120 = eqb-true c 120 e in let p = and_true (all_of is_hex cs) (is_char (number 16 0 cs)) (when_is (all_of is_hex cs && is_char (number 16 0 cs)) (number 16 0 cs) h) in both_true (not (59 == c)) (all_of (λ c. not (59 == c)) cs) (rw q refl) (plain_all is_hex cs hex_out p.0)
    by false e h = let p = and_true (all_of is_digit (c ∷ cs)) (is_char (number 10 0 (c ∷ cs))) (when_is (all_of is_digit (c ∷ cs) && is_char (number 10 0 (c ∷ cs))) (number 10 0 (c ∷ cs)) h) in plain_all is_digit (c ∷ cs) digit_out p.0

pub ref_plain : (body : List ℕ) → is_some (ref_char body) ≡ true → all_of (λ c. not (59 == c)) body ≡ true
unfolding ref_char
ref_plain [] is = refl
ref_plain (c ∷ cs) is = by (c == 35) refl is
  where
    by : (t : Bool) → (c == 35) ≡ t → is_some {T = ℕ} (if t then numbered cs else named (c ∷ cs) ((codes "lt", 60) ∷ (codes "gt", 62) ∷ (codes "amp", 38) ∷ (codes "apos", 39) ∷ (codes "quot", 34) ∷ [])) ≡ true → all_of (λ c. not (59 == c)) (c ∷ cs) ≡ true
    by true e h = let q : c ≡ 35 = eqb-true c 35 e in both_true (not (59 == c)) (all_of (λ c. not (59 == c)) cs) (rw q refl) (numbered_plain cs h)
    by false e h = named_plain (c ∷ cs) (codes "lt") (codes "gt") (codes "amp") (codes "apos") (codes "quot") refl refl refl refl refl h

-- each kind: what is spelt is read
pub white_cases : (c : ℕ) → is_white c ≡ true → ((c ≡ 9) ⊎ (c ≡ 10)) ⊎ ((c ≡ 13) ⊎ (c ≡ 32))
unfolding is_white
white_cases c is = grind (arith, nat_tests, is)

pub name_9 : (is_name_char 9 ≡ false) × (is_name_char 10 ≡ false) × (is_name_char 13 ≡ false) × (is_name_char 32 ≡ false) × (is_name_char 62 ≡ false) × (is_name_char 47 ≡ false) × (is_name_char 63 ≡ false) × (is_name_char 61 ≡ false)
unfolding is_name_char is_name_start
name_9 = (refl, refl, refl, refl, refl, refl, refl, refl)

pub white_no_name : (c : ℕ) → is_white c ≡ true → is_name_char c ≡ false
white_no_name c is = by (white_cases c is)
  where
    by : ((c ≡ 9) ⊎ (c ≡ 10)) ⊎ ((c ≡ 13) ⊎ (c ≡ 32)) → is_name_char c ≡ false
    by (inl (inl e)) = rw e name_9.0
    by (inl (inr e)) = rw e name_9.1
    by (inr (inl e)) = rw e name_9.2
    by (inr (inr e)) = rw e name_9.3

-- a name's characters, and what ends a name
pub start_in : (c : ℕ) → is_name_start c ≡ true → is_name_char c ≡ true
unfolding is_name_char
start_in c is = rw is refl

pub name_chars : (n : List ℕ) → is_name n ≡ true → all_of is_name_char n ≡ true
name_chars [] is = absurd (cc)
name_chars (c ∷ cs) is = let p = and_true (is_name_start c) (all_of is_name_char cs) is in both_true (is_name_char c) (all_of is_name_char cs) (start_in c p.0) p.1

pub gap_stops : (f : ℕ → Bool) (gap : List ℕ) (c : ℕ) (rest : List ℕ) → ((d : ℕ) → is_white d ≡ true → f d ≡ false) → all_of is_white gap ≡ true → f c ≡ false → stops f (gap ++ c ∷ rest) ≡ true
gap_stops f [] c rest out all no_c = rw no_c refl
gap_stops f (g ∷ gs) c rest out all no_c = let p = and_true (is_white g) (all_of is_white gs) all in rw (out g p.0) refl

pub white_out : (is_white 62 ≡ false) × (is_white 47 ≡ false) × (is_white 63 ≡ false) × (is_white 61 ≡ false)
unfolding is_white
white_out = (refl, refl, refl, refl)

pub end_read : (n gap rest : List ℕ) → is_piece (end_tag n gap) ≡ true → piece_at (spelt (end_tag n gap) rest) ≡ Some (end_tag n gap, rest)
unfolding piece_at
end_read n gap rest is = let p = and_true (is_name n) (all_of is_white gap) is in
    let first = span_again is_name_char n (gap ++ 62 ∷ rest) (name_chars n p.0) (gap_stops is_name_char gap 62 rest white_no_name p.1 name_9.4) in
    let second = span_again is_white gap (62 ∷ rest) p.1 (rw white_out.0 refl) in
    rw (first, second, is) refl

apart_stops : (body rest : List ℕ) → is_apart body ≡ true → stops is_name_char (body ++ 63 ∷ 62 ∷ rest) ≡ true
apart_stops [] rest is = rw name_9.6 refl
apart_stops (b ∷ bs) rest is = rw (white_no_name b is) refl

pub not_xml : (n : List ℕ) → not (same (map lower n) (codes "xml")) ≡ true → same n (codes "xml") ≡ false
not_xml n is = by (same n (codes "xml")) refl
  where
    by : (t : Bool) → same n (codes "xml") ≡ t → t ≡ false
    by true e = let q : n ≡ codes "xml" = same_is n (codes "xml") e in let r : not (same (map lower (codes "xml")) (codes "xml")) ≡ true = subst (λ (m : List ℕ). not (same (map lower m) (codes "xml")) ≡ true) q is in absurd (cc)
    by false e = refl

pub instruction_read : (n body rest : List ℕ) → is_piece (instruction n body) ≡ true → piece_at (spelt (instruction n body) rest) ≡ Some (instruction n body, rest)
unfolding piece_at
instruction_read n body rest is =
    let p = and_true (is_name n) (not (same (map lower n) (codes "xml")) && (is_apart body && (all_of is_char body && not (holds (codes "?>") body)))) is in
    let q = and_true (not (same (map lower n) (codes "xml"))) (is_apart body && (all_of is_char body && not (holds (codes "?>") body))) p.1 in
    let r = and_true (is_apart body) (all_of is_char body && not (holds (codes "?>") body)) q.1 in
    let s = and_true (all_of is_char body) (not (holds (codes "?>") body)) r.1 in
    let first = span_again is_name_char n (body ++ 63 ∷ 62 ∷ rest) (name_chars n p.0) (apart_stops body rest r.0) in
    rw (first, not_xml n q.0, cut_ask body rest (not_true (holds (codes "?>") body) s.1), is) refl

pub char_read_end : (c : ℕ) → is_piece (character c) ≡ true → piece_at (c ∷ []) ≡ Some (character c, [])
unfolding piece_at
char_read_end c is = let p = and_true (is_char c) (not (c == 60 || c == 38)) is in let q = or_false (c == 60) (c == 38) (not_true (c == 60 || c == 38) p.1) in rw (q.0, q.1, p.0) refl

pub char_read_more : (c d : ℕ) (rest : List ℕ) → is_piece (character c) ≡ true → is_alone (character c) (d ∷ rest) ≡ true → piece_at (c ∷ d ∷ rest) ≡ Some (character c, d ∷ rest)
unfolding piece_at
char_read_more c d rest is alone = let p = and_true (is_char c) (not (c == 60 || c == 38)) is in let q = or_false (c == 60) (c == 38) (not_true (c == 60 || c == 38) p.1) in rw (q.0, q.1, p.0, not_here) refl
  where
    not_here : (c == 13 && d == 10) ≡ false
    not_here = grind (arith, nat_tests, alone)

pub line_end_read : (rest : List ℕ) → piece_at (13 ∷ 10 ∷ rest) ≡ Some (line_end, rest)
unfolding piece_at
line_end_read rest = refl

pub reference_read : (body rest : List ℕ) → is_piece (reference body) ≡ true → piece_at (spelt (reference body) rest) ≡ Some (reference body, rest)
unfolding piece_at
reference_read body rest is = rw (cut_semicolon body rest (ref_plain body is), is) refl

pub cdata_read : (body rest : List ℕ) → is_piece (cdata body) ≡ true → piece_at (spelt (cdata body) rest) ≡ Some (cdata body, rest)
unfolding piece_at
cdata_read body rest is = let p = and_true (all_of is_char body) (not (holds (codes "]]>") body)) is in rw (cut_cdata body rest (not_true (holds (codes "]]>") body) p.1), is) refl

pub comment_read : (body rest : List ℕ) → is_piece (comment body) ≡ true → piece_at (spelt (comment body) rest) ≡ Some (comment body, rest)
unfolding piece_at
comment_read body rest is = let p = and_true (all_of is_char body) (not (holds (codes "--") body) && ends_not 45 body) is in let q = and_true (not (holds (codes "--") body)) (ends_not 45 body) p.1 in rw (cut_dashes body rest (not_true (holds (codes "--") body) q.0) q.1, is) refl
