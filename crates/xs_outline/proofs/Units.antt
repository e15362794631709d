-- A unit of a quoted string is read exactly: what it spells is read, and what is read it spells.
use Rattle.std.proofs.Common.{◌≡◌, ℕ, suc, ◌+◌, ◌*◌, ◌<◌, ◌≤◌, List, [], ◌∷◌, ◌++◌, map, length, append_assoc, add-zero, Some, None, true, false, Bool, ◌&&◌, ◌||◌, if◌then◌else◌, ◌==◌, nat_lt, nat_le, refl, sym, ap, ◌∙◌, subst, arith, eqb-true}
use Rattle.std.specs.declared.option.Option.{Option}
use Rattle.std.specs.List.{list_all}
use Rattle.std.specs.Char.{digit_value}
use Rattle.std.proofs.lemmas.List.{map-append}
use Rattle.xs_class.proofs.Truth.{and_true, both_true, not_true, or_false, lt_true, le_is, le_true, lt_is, no_other}
use Rattle.xs_class.proofs.Lists.{some_pair}
use Rattle.xs_lex.specs.Units.{QuotedUnit, plain, escaped, coded, number, is_hex, is_scalar, is_escape, escape_char, is_quoted_unit, spelt_quoted_unit, spelt_quoted, meaning}
use Rattle.xs_lex.specs.Spelling.{IsQuoted}
use Rattle.xs_outline.specs.Reading.{digits_at, coded_at, escaped_at, unit_at, ends_at, NoQuoted}
use Rattle.xs_outline.proofs.Spelling.{first_same}

number_grows : (n : ℕ) (ds : List ℕ) → n ≤ number n ds
number_grows n [] = omega arith
number_grows n (d ∷ ds) = let more = number_grows (n * 16 + digit_value d) ds in omega arith

number_push : (n : ℕ) (ds : List ℕ) (d : ℕ) → number n (ds ++ d ∷ []) ≡ number n ds * 16 + digit_value d
number_push n [] d = refl
number_push n (e ∷ ds) d = number_push (n * 16 + digit_value e) ds d

digits_read : (ds : List ℕ) (n v : ℕ) (rest : List ℕ) → list_all is_hex ds ≡ true → n + length ds ≤ 6 → number v ds < 0x110000 → digits_at n v (ds ++ 125 ∷ rest) ≡ digits_at (n + length ds) (number v ds) (125 ∷ rest)
digits_read [] n v rest hex few low = ap (λ k. digits_at k v (125 ∷ rest)) (sym (add-zero n))
digits_read (d ∷ ds) n v rest hex few low =
    let p = and_true (is_hex d) (list_all is_hex ds) hex in
    let grown = number_grows (v * 16 + digit_value d) ds in
    let low_now : nat_lt (v * 16 + digit_value d) 0x110000 ≡ true = lt_true (v * 16 + digit_value d) 0x110000 (omega arith) in
    let few_now : nat_lt n 6 ≡ true = lt_true n 6 (omega arith) in
    let first : digits_at n v (d ∷ (ds ++ 125 ∷ rest)) ≡ digits_at (n + 1) (v * 16 + digit_value d) (ds ++ 125 ∷ rest) = rw (no_other is_hex d 125 p.0 refl, few_now, p.0, low_now) refl in
    let sum : n + 1 + length ds ≡ n + suc (length ds) = omega arith in
    first ∙ digits_read ds (n + 1) (v * 16 + digit_value d) rest p.1 (omega arith) low ∙ ap (λ k. digits_at k (number (v * 16 + digit_value d) ds) (125 ∷ rest)) sum

scalar_low : (n : ℕ) → is_scalar n ≡ true → n < 0x110000
scalar_low n is = by (nat_lt n 0xD800) refl
  where
    by : (t : Bool) → nat_lt n 0xD800 ≡ t → n < 0x110000
    by true e = let low = lt_is n 0xD800 e in omega (arith, low)
    by false e = lt_is n 0x110000 (and_true (nat_le 0xE000 n) (nat_lt n 0x110000) (sym (rw e refl) ∙ is)).1

-- what a unit spells is read
pub unit_read : (u : QuotedUnit) (rest : List ℕ) → is_quoted_unit u ≡ true → unit_at (spelt_quoted_unit u rest) ≡ Some (meaning u, rest)
unit_read (plain c) rest is =
    let p = or_false (c == 34) (c == 92 || c == 10) (not_true (c == 34 || (c == 92 || c == 10)) is) in
    let q = or_false (c == 92) (c == 10) p.1 in
    rw (q.0, p.0, q.1) refl
unit_read (escaped c) rest is = rw (no_other is_escape c 117 is refl, is) refl
unit_read (coded ds) rest is =
    let p = and_true (list_all is_hex ds) (nat_le 1 (length ds) && (nat_le (length ds) 6 && is_scalar (number 0 ds))) is in
    let q = and_true (nat_le 1 (length ds)) (nat_le (length ds) 6 && is_scalar (number 0 ds)) p.1 in
    let r = and_true (nat_le (length ds) 6) (is_scalar (number 0 ds)) q.1 in
    let none : (n : ℕ) → 0 + n ≡ n = λ n. omega arith in
    let few = le_is (length ds) 6 r.0 in
    let last : digits_at (length ds) (number 0 ds) (125 ∷ rest) ≡ Some (number 0 ds, rest) = rw (q.0, r.1) refl in
    digits_read ds 0 0 rest p.0 (omega (arith, few)) (scalar_low (number 0 ds) r.1) ∙ ap (λ k. digits_at k (number 0 ds) (125 ∷ rest)) (none (length ds)) ∙ last

-- what is read a unit spells
pub record IsUnit (text : List ℕ) (c : ℕ) (rest : List ℕ) : Type 0 where
  pub unit : QuotedUnit
  pub good : is_quoted_unit unit ≡ true
  pub is : text ≡ spelt_quoted_unit unit rest
  pub means : c ≡ meaning unit

abbrev some_read : ℕ → List ℕ → Option (ℕ × List ℕ)
some_read c rest = Some (c, rest)

none_pair : (x : ℕ × List ℕ) → ◌≡◌ {A = Option (ℕ × List ℕ)} None (Some x) → ⊥
none_pair x e = cc

all_push : (f : ℕ → Bool) (xs : List ℕ) (x : ℕ) → list_all f xs ≡ true → f x ≡ true → list_all f (xs ++ x ∷ []) ≡ true
all_push f [] x all here = both_true (f x) true here refl
all_push f (y ∷ ys) x all here = let p = and_true (f y) (list_all f ys) all in both_true (f y) (list_all f (ys ++ x ∷ [])) p.0 (all_push f ys x p.1 here)

one_longer : (xs : List ℕ) (x : ℕ) → length (xs ++ x ∷ []) ≡ length xs + 1
one_longer [] x = refl
one_longer (y ∷ xs) x = omega (arith, one_longer xs x)

digits_found : (cs ds : List ℕ) (n v c : ℕ) (rest : List ℕ) → list_all is_hex ds ≡ true → length ds ≡ n → number 0 ds ≡ v → n ≤ 6 → digits_at n v cs ≡ Some (c, rest) → IsUnit (92 ∷ 117 ∷ 123 ∷ (ds ++ cs)) c rest
digits_found [] ds n v c rest hex count value few is = absurd (none_pair (c, rest) is)
digits_found (x ∷ cs) ds n v c rest hex count value few is = by (x == 125) refl is (λ es m w a b d f g. digits_found cs es m w c rest a b d f g)
  where
    ended : (t : Bool) → (nat_le 1 n && is_scalar v) ≡ t → (x == 125) ≡ true → (if t then some_read v cs else None) ≡ Some (c, rest) → IsUnit (92 ∷ 117 ∷ 123 ∷ (ds ++ x ∷ cs)) c rest
    ended false e brace h = absurd (none_pair (c, rest) h)
    ended true e brace h =
        let same = some_pair v c cs rest h in
        let q = and_true (nat_le 1 n) (is_scalar v) e in
        record {
          unit = coded ds;
          good = rw (hex, count, value, q.0, le_true n 6 few, q.1) refl;
          is = ap (λ z. 92 ∷ 117 ∷ 123 ∷ (ds ++ z ∷ cs)) (eqb-true x 125 brace) ∙ ap (λ z. 92 ∷ 117 ∷ 123 ∷ (ds ++ 125 ∷ z)) same.1;
          means = sym same.0 ∙ sym value;
        }

    longer : (t : Bool) → (nat_lt n 6 && (is_hex x && nat_lt (v * 16 + digit_value x) 0x110000)) ≡ t → (if t then digits_at (n + 1) (v * 16 + digit_value x) cs else None) ≡ Some (c, rest) → ((es : List ℕ) (m w : ℕ) → list_all is_hex es ≡ true → length es ≡ m → number 0 es ≡ w → m ≤ 6 → digits_at m w cs ≡ Some (c, rest) → IsUnit (92 ∷ 117 ∷ 123 ∷ (es ++ cs)) c rest) → IsUnit (92 ∷ 117 ∷ 123 ∷ (ds ++ x ∷ cs)) c rest
    longer false e h again = absurd (none_pair (c, rest) h)
    longer true e h again =
        let q = and_true (nat_lt n 6) (is_hex x && nat_lt (v * 16 + digit_value x) 0x110000) e in
        let r = and_true (is_hex x) (nat_lt (v * 16 + digit_value x) 0x110000) q.1 in
        let less = lt_is n 6 q.0 in
        subst (λ z. IsUnit (92 ∷ 117 ∷ 123 ∷ z) c rest) (append_assoc ds (x ∷ []) cs)
        (again (ds ++ x ∷ []) (n + 1) (v * 16 + digit_value x) (all_push is_hex ds x hex r.0) (one_longer ds x ∙ ap (λ k. k + 1) count) (number_push 0 ds x ∙ ap (λ z. z * 16 + digit_value x) value) (omega (arith, less)) h)

    by : (t : Bool) → (x == 125) ≡ t → (if t then (if nat_le 1 n && is_scalar v then some_read v cs else None) else (if nat_lt n 6 && (is_hex x && nat_lt (v * 16 + digit_value x) 0x110000) then digits_at (n + 1) (v * 16 + digit_value x) cs else None)) ≡ Some (c, rest) → ((es : List ℕ) (m w : ℕ) → list_all is_hex es ≡ true → length es ≡ m → number 0 es ≡ w → m ≤ 6 → digits_at m w cs ≡ Some (c, rest) → IsUnit (92 ∷ 117 ∷ 123 ∷ (es ++ cs)) c rest) → IsUnit (92 ∷ 117 ∷ 123 ∷ (ds ++ x ∷ cs)) c rest
    by true e h again = ended (nat_le 1 n && is_scalar v) refl e h
    by false e h again = longer (nat_lt n 6 && (is_hex x && nat_lt (v * 16 + digit_value x) 0x110000)) refl h again

coded_found : (cs : List ℕ) (c : ℕ) (rest : List ℕ) → coded_at cs ≡ Some (c, rest) → IsUnit (92 ∷ 117 ∷ cs) c rest
coded_found [] c rest is = absurd (none_pair (c, rest) is)
coded_found (x ∷ cs) c rest is = by (x == 123) refl is
  where
    by : (t : Bool) → (x == 123) ≡ t → (if t then digits_at 0 0 cs else None) ≡ Some (c, rest) → IsUnit (92 ∷ 117 ∷ x ∷ cs) c rest
    by false e h = absurd (none_pair (c, rest) h)
    by true e h = subst (λ z. IsUnit (92 ∷ 117 ∷ z ∷ cs) c rest) (sym (eqb-true x 123 e)) (digits_found cs [] 0 0 c rest refl refl refl (omega arith) h)

escaped_found : (cs : List ℕ) (c : ℕ) (rest : List ℕ) → escaped_at cs ≡ Some (c, rest) → IsUnit (92 ∷ cs) c rest
escaped_found [] c rest is = absurd (none_pair (c, rest) is)
escaped_found (x ∷ cs) c rest is = by (x == 117) refl is
  where
    sign : (t : Bool) → is_escape x ≡ t → (if t then some_read (escape_char x) cs else None) ≡ Some (c, rest) → IsUnit (92 ∷ x ∷ cs) c rest
    sign false e h = absurd (none_pair (c, rest) h)
    sign true e h =
        let same = some_pair (escape_char x) c cs rest h in
        record { unit = escaped x; good = e; is = ap (λ z. 92 ∷ x ∷ z) same.1; means = sym same.0 }

    by : (t : Bool) → (x == 117) ≡ t → (if t then coded_at cs else (if is_escape x then some_read (escape_char x) cs else None)) ≡ Some (c, rest) → IsUnit (92 ∷ x ∷ cs) c rest
    by true e h = subst (λ z. IsUnit (92 ∷ z ∷ cs) c rest) (sym (eqb-true x 117 e)) (coded_found cs c rest h)
    by false e h = sign (is_escape x) refl h

pub unit_found : (cs : List ℕ) (c : ℕ) (rest : List ℕ) → unit_at cs ≡ Some (c, rest) → IsUnit cs c rest
unit_found [] c rest is = absurd (none_pair (c, rest) is)
unit_found (x ∷ cs) c rest is = by (x == 92) refl is
  where
    as_it_is : (t : Bool) → (x == 34 || x == 10) ≡ t → (x == 92) ≡ false → (if t then None else some_read x cs) ≡ Some (c, rest) → IsUnit (x ∷ cs) c rest
    as_it_is true e f h = absurd (none_pair (c, rest) h)
    as_it_is false e f h =
        let same = some_pair x c cs rest h in
        let p = or_false (x == 34) (x == 10) e in
        record { unit = plain x; good = rw (p.0, f, p.1) refl; is = ap (λ z. x ∷ z) same.1; means = sym same.0 }

    by : (t : Bool) → (x == 92) ≡ t → (if t then escaped_at cs else (if x == 34 || x == 10 then None else some_read x cs)) ≡ Some (c, rest) → IsUnit (x ∷ cs) c rest
    by true e h = subst (λ z. IsUnit (z ∷ cs) c rest) (sym (eqb-true x 92 e)) (escaped_found cs c rest h)
    by false e h = as_it_is (x == 34 || x == 10) refl e h

-- units up to a closing mark, after which nothing follows
pub record CanEnd (rest : List ℕ) : Type 0 where
  pub units : List QuotedUnit
  pub each : list_all is_quoted_unit units ≡ true
  pub is : rest ≡ spelt_quoted units (34 ∷ [])

-- units that were read: the string goes on with the rest, and these are their characters
pub record IsBegun (text rest word : List ℕ) : Type 0 where
  pub units : List QuotedUnit
  pub each : list_all is_quoted_unit units ≡ true
  pub is : text ≡ 34 ∷ spelt_quoted units rest
  pub means : word ≡ map meaning units

pub starts_quoted : (text : List ℕ) (c : ℕ) (rest : List ℕ) → text ≡ c ∷ rest → (v : List ℕ) → IsQuoted text v → (c ≡ 34) × CanEnd rest
starts_quoted text c rest is v quoted =
    let same = first_same c 34 rest (spelt_quoted quoted.units (34 ∷ [])) (sym is ∙ quoted.is) in
    (same.0, record { units = quoted.units; each = quoted.each; is = same.1 })

pub none_quoted : (text : List ℕ) → text ≡ [] → NoQuoted text
none_quoted text none v quoted = not_nothing text _ none quoted.is
  where
    not_nothing : (t : List ℕ) (r : List ℕ) → t ≡ [] → t ≡ 34 ∷ r → ⊥
    not_nothing t r e f = cc

pub begun : (text : List ℕ) (c : ℕ) (rest : List ℕ) → text ≡ c ∷ rest → c ≡ 34 → IsBegun text rest []
begun text c rest is quote = record { units = []; each = refl; is = is ∙ ap (λ z. z ∷ rest) quote; means = refl }

-- where it does not end here, a unit is read
pub goes_on : (rest : List ℕ) → CanEnd rest → ends_at rest ≡ false → (c : ℕ) × (more : List ℕ) × (unit_at rest ≡ Some (c, more)) × CanEnd more
goes_on rest can open_ = by can.units can.each can.is
  where
    ended : (z : List ℕ) → z ≡ 34 ∷ [] → ends_at z ≡ false → ⊥
    ended z e f = not_both (sym f ∙ ap ends_at e)
      where
        not_both : false ≡ true → ⊥
        not_both h = cc

    by : (us : List QuotedUnit) → list_all is_quoted_unit us ≡ true → rest ≡ spelt_quoted us (34 ∷ []) → (c : ℕ) × (more : List ℕ) × (unit_at rest ≡ Some (c, more)) × CanEnd more
    by [] each is = absurd (ended rest is open_)
    by (u ∷ us) each is =
        let p = and_true (is_quoted_unit u) (list_all is_quoted_unit us) each in
        (meaning u, spelt_quoted us (34 ∷ []), ap unit_at is ∙ unit_read u (spelt_quoted us (34 ∷ [])) p.0, record { units = us; each = p.1; is = refl })

pub can_more : (rest : List ℕ) (c : ℕ) (more : List ℕ) → CanEnd rest → ends_at rest ≡ false → unit_at rest ≡ Some (c, more) → CanEnd more
can_more rest c more can open_ is =
    let on = goes_on rest can open_ in
    let same = some_pair on.0 c on.1 more (sym on.2 ∙ is) in
    subst CanEnd same.1 on.3

pub no_unit : (rest : List ℕ) → CanEnd rest → ends_at rest ≡ false → unit_at rest ≡ None → ⊥
no_unit rest can open_ is = let on = goes_on rest can open_ in none_pair (on.0, on.1) (sym is ∙ on.2)

spelt_push : (us : List QuotedUnit) (u : QuotedUnit) (rest : List ℕ) → spelt_quoted (us ++ u ∷ []) rest ≡ spelt_quoted us (spelt_quoted_unit u rest)
spelt_push [] u rest = refl
spelt_push (v ∷ us) u rest = ap (λ z. spelt_quoted_unit v z) (spelt_push us u rest)

good_push : (us : List QuotedUnit) (u : QuotedUnit) → list_all is_quoted_unit us ≡ true → is_quoted_unit u ≡ true → list_all is_quoted_unit (us ++ u ∷ []) ≡ true
good_push [] u all here = both_true (is_quoted_unit u) true here refl
good_push (v ∷ us) u all here =
    let p = and_true (is_quoted_unit v) (list_all is_quoted_unit us) all in
    both_true (is_quoted_unit v) (list_all is_quoted_unit (us ++ u ∷ [])) p.0 (good_push us u p.1 here)

pub begun_more : (text rest more word new : List ℕ) (c : ℕ) → IsBegun text rest word → unit_at rest ≡ Some (c, more) → new ≡ word ++ c ∷ [] → IsBegun text more new
begun_more text rest more word new c so_far is pushed =
    let u = unit_found rest c more is in
    record {
      units = so_far.units ++ u.unit ∷ [];
      each = good_push so_far.units u.unit so_far.each u.good;
      is = so_far.is ∙ ap (λ z. 34 ∷ spelt_quoted so_far.units z) u.is ∙ ap (λ z. 34 ∷ z) (sym (spelt_push so_far.units u.unit more));
      means = pushed ∙ ap (λ z. z ++ c ∷ []) so_far.means ∙ ap (λ z. map meaning so_far.units ++ z ∷ []) u.means ∙ sym (map-append meaning so_far.units (u.unit ∷ []));
    }

ends_is : (rest : List ℕ) → ends_at rest ≡ true → rest ≡ 34 ∷ []
ends_is [] is = absurd (not_true_false is)
  where
    not_true_false : false ≡ true → ⊥
    not_true_false h = cc
ends_is (c ∷ []) is = ap (λ z. z ∷ []) (eqb-true c 34 is)
ends_is (c ∷ d ∷ ds) is = absurd (not_true_false is)
  where
    not_true_false : false ≡ true → ⊥
    not_true_false h = cc

pub is_quoted_now : (text rest word : List ℕ) → IsBegun text rest word → ends_at rest ≡ true → IsQuoted text word
is_quoted_now text rest word so_far end = record { units = so_far.units; is = so_far.is ∙ ap (λ z. 34 ∷ spelt_quoted so_far.units z) (ends_is rest end); each = so_far.each; means = so_far.means }
