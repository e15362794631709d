-- Numbers are read exactly, where they are below 2^64.
use Rattle.std.proofs.Common.{◌≡◌, ◌≢◌, ℕ, ◌+◌, ◌*◌, ◌^◌, ◌<◌, ◌≤◌, List, [], ◌∷◌, ◌++◌, length, get_or, Some, None, true, false, Bool, not, ◌&&◌, if◌then◌else◌, ◌==◌, nat_lt, refl, sym, ap, ◌∙◌, subst, arith, eqb-true}
use Rattle.std.specs.declared.option.Option.{Option}
use Rattle.std.specs.Char.{digit_value}
use Rattle.std.specs.Str.Parse.{AllDigits, digits_value_after}
use Rattle.std.proofs.lemmas.Option.{same_Some}
use Rattle.xs_class.proofs.Truth.{and_true, if_false, lt_true, lt_is}
use Rattle.xs_class.proofs.Lists.{some_inj}
use Rattle.xs_outline.specs.Lines.{IsNumeral}
use Rattle.xs_outline.specs.Reading.{number_after, numeral_at, spaced_after, spaced_at}

none_number : (n : ℕ) → ◌≡◌ {A = Option ℕ} None (Some n) → ⊥
none_number n e = cc

-- digits that spell a number after those of another
record IsAfter (m : ℕ) (ds : List ℕ) (n : ℕ) : Type 0 where
  each : AllDigits 10 ds
  value : digits_value_after 10 m ds ≡ n

number_found : (ds : List ℕ) (m n : ℕ) → number_after m ds ≡ Some n → IsAfter m ds n
number_found [] m n is = record { each = tt; value = some_inj m n is }
number_found (c ∷ cs) m n is = by (nat_lt (digit_value c) 10 && nat_lt (m * 10 + digit_value c) (2 ^ 64)) refl is (λ h. number_found cs (m * 10 + digit_value c) n h)
  where
    by : (t : Bool) → (nat_lt (digit_value c) 10 && nat_lt (m * 10 + digit_value c) (2 ^ 64)) ≡ t → (if t then number_after (m * 10 + digit_value c) cs else None) ≡ Some n → (number_after (m * 10 + digit_value c) cs ≡ Some n → IsAfter (m * 10 + digit_value c) cs n) → IsAfter m (c ∷ cs) n
    by false e h again = absurd (none_number n h)
    by true e h again =
        let p = and_true (nat_lt (digit_value c) 10) (nat_lt (m * 10 + digit_value c) (2 ^ 64)) e in
        let rest = again h in
        record { each = (lt_is (digit_value c) 10 p.0, rest.each); value = rest.value }

value_grows : (ds : List ℕ) (m : ℕ) → m ≤ digits_value_after 10 m ds
value_grows [] m = omega arith
value_grows (c ∷ cs) m = let more = value_grows cs (m * 10 + digit_value c) in omega (arith, more)

number_is : (ds : List ℕ) (m : ℕ) → AllDigits 10 ds → digits_value_after 10 m ds < 2 ^ 64 → number_after m ds ≡ Some (digits_value_after 10 m ds)
number_is [] m each low = refl
number_is (c ∷ cs) m each low =
    let grown = value_grows cs (m * 10 + digit_value c) in
    let small : nat_lt (m * 10 + digit_value c) (2 ^ 64) ≡ true = lt_true (m * 10 + digit_value c) (2 ^ 64) (omega (arith, grown, low)) in
    rw (lt_true (digit_value c) 10 each.0, small) (number_is cs (m * 10 + digit_value c) each.1 low)

not_some : (c : ℕ) (cs : List ℕ) → c ∷ cs ≢ []
not_some c cs e = cc

-- what is read is a numeral
pub numeral_found : (ds : List ℕ) (n : ℕ) → numeral_at ds ≡ Some n → IsNumeral ds n
numeral_found [] n is = absurd (none_number n is)
numeral_found (c ∷ []) n is =
    let found = number_found (c ∷ []) 0 n is in
    record { some = not_some c []; each = found.each; value = found.value; leading = λ e. refl }
numeral_found (c ∷ d ∷ ds) n is = by (c == 48) refl is
  where
    no_zero : (c == 48) ≡ false → c ≡ 48 → ⊥
    no_zero e same = not_both (sym e ∙ ap (λ z. z == 48) same)
      where
        not_both : false ≡ true → ⊥
        not_both h = cc

    by : (t : Bool) → (c == 48) ≡ t → (if t then None else number_after 0 (c ∷ d ∷ ds)) ≡ Some n → IsNumeral (c ∷ d ∷ ds) n
    by true e h = absurd (none_number n h)
    by false e h =
        let found = number_found (c ∷ d ∷ ds) 0 n h in
        record { some = not_some c (d ∷ ds); each = found.each; value = found.value; leading = λ zero. absurd (no_zero e zero) }

-- a numeral is read
pub numeral_read : (ds : List ℕ) (n : ℕ) → n < 2 ^ 64 → IsNumeral ds n → numeral_at ds ≡ Some n
numeral_read [] n low is = absurd (is.some refl)
numeral_read (c ∷ []) n low is = number_is (c ∷ []) 0 is.each (subst (λ z. z < 2 ^ 64) (sym is.value) low) ∙ ap (λ z. Some z) is.value
numeral_read (c ∷ d ∷ ds) n low is = by (c == 48) refl
  where
    two : 2 ≤ length (c ∷ d ∷ ds)
    two = omega arith

    by : (t : Bool) → (c == 48) ≡ t → (if t then None else number_after 0 (c ∷ d ∷ ds)) ≡ Some n
    by true e = let one = is.leading (eqb-true c 48 e) in absurd (omega (arith, one, two))
    by false e = number_is (c ∷ d ∷ ds) 0 is.each (subst (λ z. z < 2 ^ 64) (sym is.value) low) ∙ ap (λ z. Some z) is.value

-- a number up to a space is a numeral, then the space
pub record IsSpaced (text : List ℕ) (n : ℕ) (rest : List ℕ) : Type 0 where
  pub digits : List ℕ
  pub is : text ≡ digits ++ 32 ∷ rest
  pub number : numeral_at digits ≡ Some n

none_pair : (x : ℕ × List ℕ) → ◌≡◌ {A = Option (ℕ × List ℕ)} None (Some x) → ⊥
none_pair x e = cc

same_pair : (x y : ℕ × List ℕ) → Some x ≡ Some y → (x.0 ≡ y.0) × (x.1 ≡ y.1)
same_pair x y e = let same = same_Some x y e in (ap (λ (z : ℕ × List ℕ). z.0) same, ap (λ (z : ℕ × List ℕ). z.1) same)

record IsSpacedAfter (m : ℕ) (text : List ℕ) (n : ℕ) (rest : List ℕ) : Type 0 where
  digits : List ℕ
  is : text ≡ digits ++ 32 ∷ rest
  number : number_after m digits ≡ Some n

after_found : (text : List ℕ) (m n : ℕ) (rest : List ℕ) → spaced_after m text ≡ Some (n, rest) → IsSpacedAfter m text n rest
after_found [] m n rest is = absurd (none_pair (n, rest) is)
after_found (c ∷ cs) m n rest is = at (c == 32) refl is (λ more. after_found cs (m * 10 + digit_value c) n rest more)
  where
    by : (t : Bool) → (nat_lt (digit_value c) 10 && nat_lt (m * 10 + digit_value c) (2 ^ 64)) ≡ t → (if t then spaced_after (m * 10 + digit_value c) cs else None) ≡ Some (n, rest) → (spaced_after (m * 10 + digit_value c) cs ≡ Some (n, rest) → IsSpacedAfter (m * 10 + digit_value c) cs n rest) → IsSpacedAfter m (c ∷ cs) n rest
    by false e h again = absurd (none_pair (n, rest) h)
    by true e h again =
        let more = again h in
        record { digits = c ∷ more.digits; is = ap (λ z. c ∷ z) more.is; number = rw e more.number }

    at : (t : Bool) → (c == 32) ≡ t → (if t then Some (m, cs) else (if nat_lt (digit_value c) 10 && nat_lt (m * 10 + digit_value c) (2 ^ 64) then spaced_after (m * 10 + digit_value c) cs else None)) ≡ Some (n, rest) → (spaced_after (m * 10 + digit_value c) cs ≡ Some (n, rest) → IsSpacedAfter (m * 10 + digit_value c) cs n rest) → IsSpacedAfter m (c ∷ cs) n rest
    at true e h again =
        let same = same_pair (m, cs) (n, rest) h in
        record { digits = []; is = ap (λ z. z ∷ cs) (eqb-true c 32 e) ∙ ap (λ z. 32 ∷ z) same.1; number = ap (λ z. Some z) same.0 }
    at false e h again = by (nat_lt (digit_value c) 10 && nat_lt (m * 10 + digit_value c) (2 ^ 64)) refl h again

no_space : (c : ℕ) → digit_value c < 10 → (c == 32) ≡ false
no_space c low = by (c == 32) refl
  where
    by : (t : Bool) → (c == 32) ≡ t → t ≡ false
    by true e = let bad : digit_value 32 < 10 = subst (λ z. digit_value z < 10) (eqb-true c 32 e) low in absurd (omega (arith, bad))
    by false e = refl

after_read : (digits rest : List ℕ) (m n : ℕ) → number_after m digits ≡ Some n → spaced_after m (digits ++ 32 ∷ rest) ≡ Some (n, rest)
after_read [] rest m n is = ap (λ z. Some (z, rest)) (some_inj m n is)
after_read (c ∷ cs) rest m n is = by (nat_lt (digit_value c) 10 && nat_lt (m * 10 + digit_value c) (2 ^ 64)) refl is (λ h. after_read cs rest (m * 10 + digit_value c) n h)
  where
    by : (t : Bool) → (nat_lt (digit_value c) 10 && nat_lt (m * 10 + digit_value c) (2 ^ 64)) ≡ t → (if t then number_after (m * 10 + digit_value c) cs else None) ≡ Some n → (number_after (m * 10 + digit_value c) cs ≡ Some n → spaced_after (m * 10 + digit_value c) (cs ++ 32 ∷ rest) ≡ Some (n, rest)) → spaced_after m (c ∷ (cs ++ 32 ∷ rest)) ≡ Some (n, rest)
    by false e h again = absurd (none_number n h)
    by true e h again =
        let low = lt_is (digit_value c) 10 (and_true (nat_lt (digit_value c) 10) (nat_lt (m * 10 + digit_value c) (2 ^ 64)) e).0 in
        rw (no_space c low, e) (again h)

pub spaced_found : (text : List ℕ) (n : ℕ) (rest : List ℕ) → spaced_at text ≡ Some (n, rest) → IsSpaced text n rest
spaced_found [] n rest is = absurd (none_pair (n, rest) is)
spaced_found (c ∷ []) n rest is = absurd (none_pair (n, rest) is)
spaced_found (c ∷ d ∷ ds) n rest is = first (c == 32) refl is
  where
    one_more : (c == 32) ≡ false → (c == 48 && not (d == 32)) ≡ false → (ks : List ℕ) → c ∷ d ∷ ds ≡ ks ++ 32 ∷ rest → number_after 0 ks ≡ Some n → numeral_at ks ≡ Some n
    one_more e g [] is f = let same : c ≡ 32 = ap (λ (z : List ℕ). get_or z 0 0) is in absurd (not_both (sym e ∙ ap (λ z. z == 32) same))
      where
        not_both : false ≡ true → ⊥
        not_both h = cc
    one_more e g (k ∷ []) is f = f
    one_more e g (k ∷ l ∷ ks) is f = by (k == 48) refl
      where
        low : digit_value l < 10
        low = (number_found (k ∷ l ∷ ks) 0 n f).each.1.0

        zero_first : (k == 48) ≡ true → (c == 48 && not (d == 32)) ≡ true
        zero_first z =
            let k_is : c ≡ k = ap (λ (y : List ℕ). get_or y 0 0) is in
            let l_is : d ≡ l = ap (λ (y : List ℕ). get_or y 1 0) is in
            rw (ap (λ y. y == 48) k_is ∙ z, ap (λ y. y == 32) l_is ∙ no_space l low) refl

        not_both : false ≡ true → ⊥
        not_both h = cc

        by : (t : Bool) → (k == 48) ≡ t → (if t then None else number_after 0 (k ∷ l ∷ ks)) ≡ Some n
        by true z = absurd (not_both (sym g ∙ zero_first z))
        by false z = f

    second : (c == 32) ≡ false → (t : Bool) → (c == 48 && not (d == 32)) ≡ t → (if t then None else spaced_after 0 (c ∷ d ∷ ds)) ≡ Some (n, rest) → IsSpaced (c ∷ d ∷ ds) n rest
    second e true g h = absurd (none_pair (n, rest) h)
    second e false g h =
        let more = after_found (c ∷ d ∷ ds) 0 n rest h in
        record { digits = more.digits; is = more.is; number = one_more e g more.digits more.is more.number }

    first : (t : Bool) → (c == 32) ≡ t → (if t then None else (if c == 48 && not (d == 32) then None else spaced_after 0 (c ∷ d ∷ ds))) ≡ Some (n, rest) → IsSpaced (c ∷ d ∷ ds) n rest
    first true e h = absurd (none_pair (n, rest) h)
    first false e h = second e (c == 48 && not (d == 32)) refl h

and_never : (b : Bool) → (b && false) ≡ false
and_never true = refl
and_never false = refl

pub spaced_read : (digits rest : List ℕ) (n : ℕ) → numeral_at digits ≡ Some n → spaced_at (digits ++ 32 ∷ rest) ≡ Some (n, rest)
spaced_read [] rest n is = absurd (none_number n is)
spaced_read (c ∷ []) rest n is =
    let low = (number_found (c ∷ []) 0 n is).each.0 in
    if_false (c == 32) None (if c == 48 && not (32 == 32) then None else spaced_after 0 (c ∷ 32 ∷ rest)) (no_space c low)
    ∙ if_false (c == 48 && not (32 == 32)) None (spaced_after 0 (c ∷ 32 ∷ rest)) (and_never (c == 48)) ∙ after_read (c ∷ []) rest 0 n is
spaced_read (c ∷ d ∷ ds) rest n is = by (c == 48) refl is
  where
    by : (t : Bool) → (c == 48) ≡ t → (if t then None else number_after 0 (c ∷ d ∷ ds)) ≡ Some n → (if c == 32 then None else (if c == 48 && not (d == 32) then None else spaced_after 0 (c ∷ d ∷ (ds ++ 32 ∷ rest)))) ≡ Some (n, rest)
    by true e h = absurd (none_number n h)
    by false e h =
        let low = (number_found (c ∷ d ∷ ds) 0 n h).each.0 in
        if_false (c == 32) None (if c == 48 && not (d == 32) then None else spaced_after 0 (c ∷ d ∷ (ds ++ 32 ∷ rest))) (no_space c low)
        ∙ if_false (c == 48 && not (d == 32)) None (spaced_after 0 (c ∷ d ∷ (ds ++ 32 ∷ rest))) (ap (λ b. b && not (d == 32)) e) ∙ after_read (c ∷ d ∷ ds) rest 0 n h
