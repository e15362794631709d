-- The settings of a declaration, by what the reader keeps of them.
use Rattle.std.proofs.Common.{◌≡◌, ◌⊎◌, inl, inr, ℕ, List, [], ◌∷◌, map, codes, length, Bool, true, false, not, ◌==◌, ◌&&◌, ◌||◌, if◌then◌else◌, Some, None, refl, sym, ◌∙◌, ap, subst, arith}
use Rattle.std.specs.declared.option.Option.{Option}
use Rattle.std.specs.Option.{option_map}
use Rattle.std.proofs.lemmas.Bool.Decides.{nat_tests}
use Rattle.xs_xml_laws.specs.Tables.{is_white}
use Rattle.xs_xml_laws.specs.Piece.{Attribute, Bit, plain, declaration, is_piece, same, lower, all_of, is_text, lower_bits, is_version, is_encoding, is_standalone, are_settings, are_attributes}
use Rattle.xs_xml_laws.specs.Reads.{value}
use Rattle.xs_xml_laws.specs.Scan.{after, span, ◌>>=◌, kept, attrs_at, declaration_end, declaration_attrs}
use Rattle.xs_xml_laws.proofs.Reading.{white_cases}
use Rattle.xs_class.proofs.Truth.{and_true, and_no, not_true, no_other}
use Rattle.xs_xml_laws.proofs.Steps.{run_all}
use Rattle.xs_form.specs.Values.{all_written}
use Rattle.xs_form.specs.Attributes.{Held, held}
use Rattle.xs_form.specs.Seen.{Seen, found, declared, held_version, held_encoding, held_standalone, held_settings}

-- a text without white space
abbrev pub is_plain : List ℕ → Bool
is_plain [] = true
is_plain (c ∷ cs) = not (is_white c) && is_plain cs

white_numbers : (is_white 32 ≡ true) × (is_white 13 ≡ true)
unfolding is_white
white_numbers = (refl, refl)

pub swap : (x y : ℕ) → (x == y) ≡ (y == x)
swap x y = grind (arith, nat_tests)

other : (x y : ℕ) → is_white x ≡ false → is_white y ≡ true → (x == y) ≡ false
other x y p q = swap x y ∙ no_other is_white y x q p

and_swap : (x y z : Bool) → (x && (y && z)) ≡ (y && (x && z))
and_swap true y z = refl
and_swap false true z = refl
and_swap false false z = refl

lower_white : (d : ℕ) → is_white d ≡ true → lower d ≡ d
lower_white d is = by (white_cases d is)
  where
    by : ((d ≡ 9) ⊎ (d ≡ 10)) ⊎ ((d ≡ 13) ⊎ (d ≡ 32)) → lower d ≡ d
    by (inl (inl e)) = rw e refl
    by (inl (inr e)) = rw e refl
    by (inr (inl e)) = rw e refl
    by (inr (inr e)) = rw e refl

return_white : (d : ℕ) → is_white d ≡ false → (d == 13) ≡ false
return_white d is = other d 13 is white_numbers.1

-- a value is a text where no reference stands in it and its symbols are those of the text
text_one : (c d e : ℕ) (w x y : Bool) (s : Bool) → is_white c ≡ false → (s ≡ true → is_white e ≡ true) → (s ≡ false → d ≡ e) → (s ≡ false → x ≡ (w && y)) → (c == e && x) ≡ (w && ((if s then 32 else d) == c && y))
text_one c d e w x y true plain_c white_e same_d is = rw (other c e plain_c (white_e refl), swap 32 c, other c 32 plain_c white_numbers.0) (sym (and_no w))
text_one c d e w x y false plain_c white_e same_d is = rw (is refl, same_d refl, swap e c) (and_swap (c == e) w y)

text_is : (t : List ℕ) (bits : List Bit) → is_plain t ≡ true → is_text t bits ≡ (all_written bits && same (value false bits) t)
text_is [] (plain d ∷ bs) is = rw (and_no (d == 10), and_no (all_written bs)) refl
text_is (c ∷ t) (plain d ∷ bs) is =
    let p = and_true (not (is_white c)) (is_plain t) is in
    let again = text_is t bs p.1 in
    rw (and_no (d == 10)) (text_one c d d (all_written bs) (is_text t bs) (same (value (d == 13) bs) t) (is_white d) (not_true (is_white c) p.0) (λ e. e) (λ e. refl) (λ e. again ∙ ap (λ (r : Bool). all_written bs && same (value r bs) t) (sym (return_white d e))))
text_is t bits is = refl

-- the same for the value in lower case
lower_one : (c d : ℕ) (w x y : Bool) (s : Bool) → is_white d ≡ s → is_white c ≡ false → (s ≡ false → x ≡ (w && y)) → (c == lower d && x) ≡ (w && (lower (if s then 32 else d) == c && y))
lower_one c d w x y true e plain_c is = rw (lower_white d e, other c d plain_c e, swap 32 c, other c 32 plain_c white_numbers.0) (sym (and_no w))
lower_one c d w x y false e plain_c is = rw (is refl, swap (lower d) c) (and_swap (c == lower d) w y)

lower_is : (t : List ℕ) (bits : List Bit) → is_plain t ≡ true → is_text t (lower_bits bits) ≡ (all_written bits && same (map lower (value false bits)) t)
lower_is [] (plain d ∷ bs) is = rw (and_no (d == 10), and_no (all_written bs)) refl
lower_is (c ∷ t) (plain d ∷ bs) is =
    let p = and_true (not (is_white c)) (is_plain t) is in
    let again = lower_is t bs p.1 in
    rw (and_no (d == 10)) (lower_one c d (all_written bs) (is_text t (lower_bits bs)) (same (map lower (value (d == 13) bs)) t) (is_white d) refl (not_true (is_white c) p.0) (λ e. again ∙ ap (λ (r : Bool). all_written bs && same (map lower (value r bs)) t) (sym (return_white d e))))
lower_is t bits is = refl

-- the settings
plain_texts : (is_plain (codes "1.0") ≡ true) × (is_plain (codes "utf-8") ≡ true) × (is_plain (codes "yes") ≡ true) × (is_plain (codes "no") ≡ true)
unfolding is_white
plain_texts = (refl, refl, refl, refl)

version_is : (a : Attribute) → is_version a ≡ held_version (held a)
version_is a = ap (λ (x : Bool). same a.name (codes "version") && x) (text_is (codes "1.0") a.value plain_texts.0)

encoding_is : (a : Attribute) → is_encoding a ≡ held_encoding (held a)
encoding_is a = ap (λ (x : Bool). same a.name (codes "encoding") && x) (lower_is (codes "utf-8") a.value plain_texts.1)

or_and : (w x y : Bool) → ((w && x) || (w && y)) ≡ (w && (x || y))
or_and true x y = refl
or_and false x y = refl

standalone_is : (a : Attribute) → is_standalone a ≡ held_standalone (held a)
standalone_is a = ap (λ (x : Bool). same a.name (codes "standalone") && x) (rw (text_is (codes "yes") a.value plain_texts.2, text_is (codes "no") a.value plain_texts.3) (or_and (all_written a.value) (same (value false a.value) (codes "yes")) (same (value false a.value) (codes "no"))))

settings_are : (as_ : List Attribute) → are_settings as_ ≡ held_settings (map held as_)
settings_are [] = refl
settings_are (v ∷ []) = version_is v
settings_are (v ∷ a ∷ []) = rw (version_is v, encoding_is a, standalone_is a) refl
settings_are (v ∷ e ∷ s ∷ []) = rw (version_is v, encoding_is e, standalone_is s) refl
settings_are (v ∷ e ∷ s ∷ t ∷ ts) = refl

-- a declaration
abbrev pub declared_before : List ℕ → Seen × List ℕ
declared_before rest = (declared, rest)

kept_declaration : (t : Bool) (as_ : List Attribute) (gap rest : List ℕ) → is_piece (declaration as_ gap) ≡ t → option_map found (kept (declaration as_ gap) rest) ≡ (if t then Some (declared_before rest) else None)
kept_declaration true as_ gap rest is = rw is refl
kept_declaration false as_ gap rest is = rw is refl

declaration_test : (as_ : List Attribute) (gap : List ℕ) → are_attributes as_ ≡ true → all_of is_white gap ≡ true → is_piece (declaration as_ gap) ≡ held_settings (map held as_)
declaration_test as_ gap are white = rw (are, white) (and_yes (are_settings as_) ∙ settings_are as_)
  where
    and_yes : (x : Bool) → (x && true) ≡ x
    and_yes true = refl
    and_yes false = refl

pub declaration_is : (text : List ℕ) (list : List Held) (more gap last : List ℕ) (o : Option (List ℕ)) → list ≡ map held (attrs_at (length text) text).0 → more ≡ (attrs_at (length text) text).1 → are_attributes (attrs_at (length text) text).0 ≡ true → (gap, last) ≡ span is_white more → o ≡ after (codes "?>") last → (if held_settings list then option_map declared_before o else None) ≡ option_map found (declaration_attrs (attrs_at (length text) text))
declaration_is text list more gap last o e1 e2 are e3 e4 =
    let a = attrs_at (length text) text in
    let white : all_of is_white gap ≡ true = subst (λ (x : List ℕ × List ℕ). all_of is_white x.0 ≡ true) (sym e3) (run_all is_white more) in
    let here : declaration_attrs a ≡ (o >>= kept (declaration a.0 gap)) = ap (declaration_end a.0) (ap (span is_white) (sym e2) ∙ sym e3) ∙ ap (λ (x : Option (List ℕ)). x >>= kept (declaration a.0 gap)) (sym e4) in
    ap (λ (x : List Held). if◌then◌else◌ {A = Option (Seen × List ℕ)} (held_settings x) (option_map declared_before o) None) e1 ∙ sym (ends a.0 gap o are white) ∙ ap (option_map found) (sym here)
  where
    none_if : (t : Bool) → ◌≡◌ {A = Option (Seen × List ℕ)} None (if t then None else None)
    none_if true = refl
    none_if false = refl

    ends : (as_ : List Attribute) (gap : List ℕ) (o : Option (List ℕ)) → are_attributes as_ ≡ true → all_of is_white gap ≡ true → option_map found (o >>= kept (declaration as_ gap)) ≡ (if held_settings (map held as_) then option_map declared_before o else None)
    ends as_ gap None are white = none_if (held_settings (map held as_))
    ends as_ gap (Some rest) are white = kept_declaration (held_settings (map held as_)) as_ gap rest (declaration_test as_ gap are white)
