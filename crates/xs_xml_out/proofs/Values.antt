-- The values of attributes, as they are written.
use Rattle.std.proofs.Common.{◌≡◌, ◌⊎◌, inl, inr, ℕ, List, [], ◌∷◌, ◌++◌, true, false, Bool, if◌then◌else◌, ◌==◌, codes, refl, sym, ◌∙◌, ap, arith, eqb-true, Some, unwrap_or, append_assoc}
use Rattle.std.proofs.lemmas.Bool.Decides.{nat_tests}
use Rattle.xs_class.specs.Marks.{attr_end}
use Rattle.xs_xml_laws.specs.Tables.{is_char, is_white, is_hex}
use Rattle.xs_xml_laws.specs.Piece.{Bit, plain, ref, spelt_bit, spelt_bits, all_of, ref_char, is_bit, are_bits}
use Rattle.xs_xml_laws.specs.Reads.{value}
use Rattle.xs_xml_laws.proofs.Reading.{white_cases}
use Rattle.xs_xml_out.specs.declared.kind.SymbolKind.TheVariants.{Char}
use Rattle.xs_xml_out.specs.declared.mode.Mode.TheVariants.{Tag, Value}
use Rattle.xs_xml_out.specs.Written.{symbol_kind, value_char, written}
use Rattle.xs_class.proofs.Truth.{and_true, both_true}
use Rattle.xs_xml_out.proofs.SymbolKinds.{symbol_kind-char, symbol_kind-attr_end}

-- how a character of a value is written
abbrev pub value_bit : ℕ → Bit
value_bit c = if c == 34 then ref (codes "quot") else (if c == 9 then ref (codes "#x9") else (if c == 10 then ref (codes "#xA") else (if c == 38 then ref (codes "amp") else (if c == 60 then ref (codes "lt") else (if c == 62 then ref (codes "gt") else (if c == 13 then ref (codes "#xD") else plain c))))))

-- the bit is spelt by these characters, may stand between double quotes, and gives c
record IsValued (c : ℕ) (b : Bit) (w : List ℕ) : Type 0 where
  spells : (rest : List ℕ) → spelt_bit b rest ≡ w ++ rest
  is : is_bit 34 b ≡ true
  gives : (bs : List Bit) → value false (b ∷ bs) ≡ c ∷ value false bs

-- the characters that the references stand for
record AreReferences : Type 0 where
  quote : ref_char (codes "quot") ≡ Some 34
  tab : ref_char (codes "#x9") ≡ Some 9
  line_feed : ref_char (codes "#xA") ≡ Some 10
  amp : ref_char (codes "amp") ≡ Some 38
  lt : ref_char (codes "lt") ≡ Some 60
  gt : ref_char (codes "gt") ≡ Some 62
  carriage_return : ref_char (codes "#xD") ≡ Some 13

references : AreReferences
unfolding ref_char is_hex is_char
references = record { quote = refl; tab = refl; line_feed = refl; amp = refl; lt = refl; gt = refl; carriage_return = refl }

ref_valued : (c d : ℕ) (body : List ℕ) → (c == d) ≡ true → ref_char body ≡ Some d → IsValued c (ref body) (38 ∷ (body ++ 59 ∷ []))
ref_valued c d body same is =
    let value_is : unwrap_or (ref_char body) 0 ≡ c = rw is (sym (eqb-true c d same)) in
    record { spells = λ rest. ap (λ (x : List ℕ). 38 ∷ x) (sym (append_assoc body (59 ∷ []) rest)); is = rw is refl; gives = λ bs. ap (λ (x : ℕ). x ∷ value false bs) value_is }

-- white space that is written as it is, is a space
space_or_other : (c : ℕ) → (c == 9) ≡ false → (c == 10) ≡ false → (c == 13) ≡ false → (if is_white c then 32 else c) ≡ c
space_or_other c n9 n10 n13 = by (is_white c) refl
  where
    of : ((c ≡ 9) ⊎ (c ≡ 10)) ⊎ ((c ≡ 13) ⊎ (c ≡ 32)) → 32 ≡ c
    of (inl (inl e)) = absurd (grind (arith, nat_tests, n9, e))
    of (inl (inr e)) = absurd (grind (arith, nat_tests, n10, e))
    of (inr (inl e)) = absurd (grind (arith, nat_tests, n13, e))
    of (inr (inr e)) = sym e

    by : (t : Bool) → is_white c ≡ t → (if t then 32 else c) ≡ c
    by true e = of (white_cases c e)
    by false e = refl

plain_valued : (c : ℕ) → is_char c ≡ true → (c == 34) ≡ false → (c == 9) ≡ false → (c == 10) ≡ false → (c == 38) ≡ false → (c == 60) ≡ false → (c == 13) ≡ false → IsValued c (plain c) (c ∷ [])
plain_valued c is n34 n9 n10 n38 n60 n13 = record { spells = λ rest. refl; is = rw (is, n60, n38, n34) refl; gives = λ bs. rw (n10, n13) (ap (λ (x : ℕ). x ∷ value false bs) (space_or_other c n9 n10 n13)) }

valued : (c : ℕ) → is_char c ≡ true → IsValued c (value_bit c) (value_char c)
valued c is = by (c == 34) (c == 9) (c == 10) (c == 38) (c == 60) (c == 62) (c == 13) refl refl refl refl refl refl refl
  where
    by : (t1 t2 t3 t4 t5 t6 t7 : Bool) → (c == 34) ≡ t1 → (c == 9) ≡ t2 → (c == 10) ≡ t3 → (c == 38) ≡ t4 → (c == 60) ≡ t5 → (c == 62) ≡ t6 → (c == 13) ≡ t7 → IsValued c (if t1 then ref (codes "quot") else (if t2 then ref (codes "#x9") else (if t3 then ref (codes "#xA") else (if t4 then ref (codes "amp") else (if t5 then ref (codes "lt") else (if t6 then ref (codes "gt") else (if t7 then ref (codes "#xD") else plain c))))))) (if t1 then codes "&quot;" else (if t2 then codes "&#x9;" else (if t3 then codes "&#xA;" else (if t4 then codes "&amp;" else (if t5 then codes "&lt;" else (if t6 then codes "&gt;" else (if t7 then codes "&#xD;" else c ∷ [])))))))
    by true t2 t3 t4 t5 t6 t7 e1 e2 e3 e4 e5 e6 e7 = ref_valued c 34 (codes "quot") e1 references.quote
    by false true t3 t4 t5 t6 t7 e1 e2 e3 e4 e5 e6 e7 = ref_valued c 9 (codes "#x9") e2 references.tab
    by false false true t4 t5 t6 t7 e1 e2 e3 e4 e5 e6 e7 = ref_valued c 10 (codes "#xA") e3 references.line_feed
    by false false false true t5 t6 t7 e1 e2 e3 e4 e5 e6 e7 = ref_valued c 38 (codes "amp") e4 references.amp
    by false false false false true t6 t7 e1 e2 e3 e4 e5 e6 e7 = ref_valued c 60 (codes "lt") e5 references.lt
    by false false false false false true t7 e1 e2 e3 e4 e5 e6 e7 = ref_valued c 62 (codes "gt") e6 references.gt
    by false false false false false false true e1 e2 e3 e4 e5 e6 e7 = ref_valued c 13 (codes "#xD") e7 references.carriage_return
    by false false false false false false false e1 e2 e3 e4 e5 e6 e7 = plain_valued c is e1 e2 e3 e4 e5 e7

abbrev pub bits : List ℕ → List Bit
bits [] = []
bits (c ∷ cs) = value_bit c ∷ bits cs

pub are_bits-bits : (v : List ℕ) → all_of is_char v ≡ true → are_bits 34 (bits v) ≡ true
are_bits-bits [] all = refl
are_bits-bits (c ∷ cs) all = let both = and_true (is_char c) (all_of is_char cs) all in both_true (is_bit 34 (value_bit c)) (are_bits 34 (bits cs)) (valued c both.0).is (are_bits-bits cs both.1)

pub value-bits : (v : List ℕ) → all_of is_char v ≡ true → value false (bits v) ≡ v
value-bits [] all = refl
value-bits (c ∷ cs) all = let both = and_true (is_char c) (all_of is_char cs) all in (valued c both.0).gives (bits cs) ∙ ap (λ (x : List ℕ). c ∷ x) (value-bits cs both.1)

value_next : (names : List (List ℕ)) (c : ℕ) (w : List ℕ) (b : Bit) (rest : List ℕ) → symbol_kind c ≡ Char c → ((r : List ℕ) → spelt_bit b r ≡ value_char c ++ r) → written names Value w ≡ rest → written names Value (c ∷ w) ≡ spelt_bit b rest
value_next names c w b rest kind here again = rw kind (ap (λ (y : List ℕ). value_char c ++ y) again ∙ sym (here rest))

pub written-value : (names : List (List ℕ)) (v y : List ℕ) → all_of is_char v ≡ true → written names Value (v ++ attr_end ∷ y) ≡ spelt_bits (bits v) (34 ∷ written names Tag y)
written-value names [] y all = rw symbol_kind-attr_end refl
written-value names (c ∷ cs) y all = let both = and_true (is_char c) (all_of is_char cs) all in value_next names c (cs ++ attr_end ∷ y) (value_bit c) (spelt_bits (bits cs) (34 ∷ written names Tag y)) (symbol_kind-char c both.0) (valued c both.0).spells (written-value names cs y both.1)
