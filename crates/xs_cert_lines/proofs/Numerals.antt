-- What is read of a number is what is written of it.
use Rattle.std.proofs.Common.{◌≡◌, ℕ, ◌+◌, ◌-◌, ◌*◌, ◌/◌, ◌%◌, ◌^◌, ◌<◌, ◌≤◌, Bool, true, false, ◌&&◌, ◌==◌, nat_le, nat_lt, if◌then◌else◌, List, [], ◌∷◌, ◌++◌, Option, Some, None, decimal, refl, sym, ap, ◌∙◌, subst, arith, append_assoc, eqb-true}
use Rattle.std.proofs.lemmas.Fmt.{decimal_digit, decimal_step, decimal_by_steps}
use Rattle.xs_class.specs.Words.{is_digit}
use Rattle.xs_class.proofs.Truth.{and_true, both_true, le_is, le_true, lt_is, lt_true, if_true, if_false}
use Rattle.xs_class.proofs.Lists.{some_pair}
use Rattle.xs_cert_lines.specs.Numbers.{number_after, number_at, kept_within, within_at, partner_at, begins_digit}

digit_is : (c : ℕ) → is_digit c ≡ true → (48 ≤ c) × (c ≤ 57)
digit_is c e = let p = and_true (nat_le 48 c) (nat_le c 57) e in (le_is 48 c p.0, le_is c 57 p.1)

is_digit_of : (d : ℕ) → d < 10 → is_digit (48 + d) ≡ true
is_digit_of d low = both_true (nat_le 48 (48 + d)) (nat_le (48 + d) 57) (le_true 48 (48 + d) (omega arith)) (le_true (48 + d) 57 (omega arith))

pub none_pair : (x : ℕ × List ℕ) → ◌≡◌ {A = Option (ℕ × List ℕ)} None (Some x) → ⊥
none_pair x e = cc

-- the digits of a number and one more
longer : (m c : ℕ) → 0 < m → 48 ≤ c → c ≤ 57 → m * 10 + (c - 48) < 2 ^ 32 → decimal (m * 10 + (c - 48)) ≡ decimal m ++ c ∷ []
longer m c some low high small =
    let step = decimal_step (m * 10 + (c - 48)) (omega arith) (omega (arith, small)) in
    let front : (m * 10 + (c - 48)) / 10 ≡ m = omega arith in
    let last : 48 + (m * 10 + (c - 48)) % 10 ≡ c = omega arith in
    step ∙ ap (λ z. decimal z ++ (48 + (m * 10 + (c - 48)) % 10) ∷ []) front ∙ ap (λ z. decimal m ++ z ∷ []) last

-- what is read goes on from the digits before
record IsAfter (m : ℕ) (bytes : List ℕ) (n : ℕ) (rest : List ℕ) : Type 0 where
  same : decimal m ++ bytes ≡ decimal n ++ rest
  small : n < 2 ^ 32

-- the same is so of what follows the digit
abbrev Again : ℕ → List ℕ → ℕ → List ℕ → Type 0
Again m bs n r = m < 2 ^ 32 → number_after m bs ≡ Some (n, r) → IsAfter m bs n r

after_found : (bs : List ℕ) (m n : ℕ) (r : List ℕ) → m < 2 ^ 32 → number_after m bs ≡ Some (n, r) → IsAfter m bs n r
after_found [] m n r small is = let e = some_pair m n [] r is in record { same = ap (λ z. decimal z ++ []) e.0 ∙ ap (λ z. decimal n ++ z) e.1; small = subst (λ z. z < 2 ^ 32) e.0 small }
after_found (c ∷ cs) m n r small is = by (λ fits h. after_found cs (m * 10 + (c - 48)) n r fits h) (is_digit c) refl is
  where
    more : is_digit c ≡ true → (m == 0) ≡ false → nat_lt (m * 10 + (c - 48)) (2 ^ 32) ≡ true → IsAfter (m * 10 + (c - 48)) cs n r → IsAfter m (c ∷ cs) n r
    more d z s rest =
        let range = digit_is c d in
        let some : 0 < m = grind (arith, z) in
        let one = longer m c some range.0 range.1 (lt_is (m * 10 + (c - 48)) (2 ^ 32) s) in
        record { same = sym (ap (λ y. y ++ cs) one ∙ append_assoc (decimal m) (c ∷ []) cs) ∙ rest.same; small = rest.small }

    third : Again (m * 10 + (c - 48)) cs n r → is_digit c ≡ true → (m == 0) ≡ false → (b : Bool) → nat_lt (m * 10 + (c - 48)) (2 ^ 32) ≡ b → (if b then number_after (m * 10 + (c - 48)) cs else None) ≡ Some (n, r) → IsAfter m (c ∷ cs) n r
    third again d z false s h = absurd (none_pair (n, r) h)
    third again d z true s h = more d z s (again (lt_is (m * 10 + (c - 48)) (2 ^ 32) s) h)

    second : Again (m * 10 + (c - 48)) cs n r → is_digit c ≡ true → (b : Bool) → (m == 0) ≡ b → (if b then None else (if nat_lt (m * 10 + (c - 48)) (2 ^ 32) then number_after (m * 10 + (c - 48)) cs else None)) ≡ Some (n, r) → IsAfter m (c ∷ cs) n r
    second again d true z h = absurd (none_pair (n, r) h)
    second again d false z h = third again d z (nat_lt (m * 10 + (c - 48)) (2 ^ 32)) refl h

    by : Again (m * 10 + (c - 48)) cs n r → (b : Bool) → is_digit c ≡ b → (if b then (if m == 0 then None else (if nat_lt (m * 10 + (c - 48)) (2 ^ 32) then number_after (m * 10 + (c - 48)) cs else None)) else Some (m, c ∷ cs)) ≡ Some (n, r) → IsAfter m (c ∷ cs) n r
    by again false d h = let e = some_pair m n (c ∷ cs) r h in record { same = ap (λ z. decimal z ++ (c ∷ cs)) e.0 ∙ ap (λ z. decimal n ++ z) e.1; small = subst (λ z. z < 2 ^ 32) e.0 small }
    by again true d h = second again d (m == 0) refl h

-- the number that is read stands there
pub record IsNumber (bytes : List ℕ) (n : ℕ) (rest : List ℕ) : Type 0 where
  pub is : bytes ≡ decimal n ++ rest
  pub small : n < 2 ^ 32

pub number_found : (bs : List ℕ) (n : ℕ) (r : List ℕ) → number_at bs ≡ Some (n, r) → IsNumber bs n r
number_found [] n r is = absurd (none_pair (n, r) is)
number_found (c ∷ cs) n r is = by (is_digit c) refl is
  where
    by : (b : Bool) → is_digit c ≡ b → (if b then number_after (c - 48) cs else None) ≡ Some (n, r) → IsNumber (c ∷ cs) n r
    by false d h = absurd (none_pair (n, r) h)
    by true d h =
        let range = digit_is c d in
        let found = after_found cs (c - 48) n r (omega (arith, range.1)) h in
        let one : decimal (c - 48) ≡ c ∷ [] = decimal_digit (c - 48) (omega (arith, range.1)) ∙ ap (λ z. z ∷ []) (omega (arith, range.0)) in
        record { is = sym (ap (λ z. z ++ cs) one) ∙ found.same; small = found.small }

-- a number that stands there is read
after_ends : (n : ℕ) (r : List ℕ) → begins_digit r ≡ false → number_after n r ≡ Some (n, r)
after_ends n [] ends = refl
after_ends n (c ∷ cs) ends = if_false (is_digit c) _ (Some (n, c ∷ cs)) ends

abbrev Reads : ℕ → List ℕ → Type 0
Reads n ds = n < 2 ^ 32 → (r : List ℕ) → number_at (ds ++ r) ≡ number_after n r

reads_one : (n : ℕ) → n < 10 → Reads n ((48 + n) ∷ [])
reads_one n low small r = if_true (is_digit (48 + n)) (number_after (48 + n - 48) r) None (is_digit_of n low) ∙ ap (λ z. number_after z r) (omega arith)

reads_more : (n : ℕ) (ds : List ℕ) → 10 ≤ n → Reads (n / 10) ds → Reads n (ds ++ (48 + n % 10) ∷ [])
reads_more n ds high reads small r =
    let value : n / 10 * 10 + (48 + n % 10 - 48) ≡ n = omega arith in
    let some : (n / 10 == 0) ≡ false = grind arith in
    let fits : nat_lt (n / 10 * 10 + (48 + n % 10 - 48)) (2 ^ 32) ≡ true = lt_true (n / 10 * 10 + (48 + n % 10 - 48)) (2 ^ 32) (omega (arith, value)) in
    ap number_at (append_assoc ds ((48 + n % 10) ∷ []) r)
    ∙ reads (omega arith) ((48 + n % 10) ∷ r)
    ∙ if_true (is_digit (48 + n % 10)) (if n / 10 == 0 then None else (if nat_lt (n / 10 * 10 + (48 + n % 10 - 48)) (2 ^ 32) then number_after (n / 10 * 10 + (48 + n % 10 - 48)) r else None)) (Some (n / 10, (48 + n % 10) ∷ r)) (is_digit_of (n % 10) (omega arith))
    ∙ if_false (n / 10 == 0) None (if nat_lt (n / 10 * 10 + (48 + n % 10 - 48)) (2 ^ 32) then number_after (n / 10 * 10 + (48 + n % 10 - 48)) r else None) some
    ∙ if_true (nat_lt (n / 10 * 10 + (48 + n % 10 - 48)) (2 ^ 32)) (number_after (n / 10 * 10 + (48 + n % 10 - 48)) r) None fits
    ∙ ap (λ z. number_after z r) value

pub number_read : (n : ℕ) (r : List ℕ) → n < 2 ^ 32 → begins_digit r ≡ false → number_at (decimal n ++ r) ≡ Some (n, r)
number_read n r small ends = decimal_by_steps Reads reads_one reads_more n (omega arith) small r ∙ after_ends n r ends

-- and with bounds
pub record IsWithin (first end : ℕ) (bytes : List ℕ) (n : ℕ) (rest : List ℕ) : Type 0 where
  pub is : bytes ≡ decimal n ++ rest
  pub order : first ≤ n
  pub below : n < end

within_kept : (first end : ℕ) (bs : List ℕ) (o : Option (ℕ × List ℕ)) (n : ℕ) (r : List ℕ) → number_at bs ≡ o → kept_within first end o ≡ Some (n, r) → IsWithin first end bs n r
within_kept first end bs None n r at is = absurd (none_pair (n, r) is)
within_kept first end bs (Some (m, s)) n r at is = by (nat_le first m && nat_lt m end) refl is
  where
    by : (b : Bool) → (nat_le first m && nat_lt m end) ≡ b → ◌≡◌ {A = Option (ℕ × List ℕ)} (if b then Some (m, s) else None) (Some (n, r)) → IsWithin first end bs n r
    by false e h = absurd (none_pair (n, r) h)
    by true e h =
        let p = and_true (nat_le first m) (nat_lt m end) e in
        let q = some_pair m n s r h in
        let found = number_found bs m s at in
        record {
          is = found.is ∙ ap (λ z. decimal z ++ s) q.0 ∙ ap (λ z. decimal n ++ z) q.1;
          order = subst (λ z. first ≤ z) q.0 (le_is first m p.0);
          below = subst (λ z. z < end) q.0 (lt_is m end p.1);
        }

pub within_found : (first end : ℕ) (bs : List ℕ) (n : ℕ) (r : List ℕ) → within_at first end bs ≡ Some (n, r) → IsWithin first end bs n r
within_found first end bs n r is = within_kept first end bs (number_at bs) n r refl is

pub within_read : (first end n : ℕ) (r : List ℕ) → first ≤ n → n < end → n < 2 ^ 32 → begins_digit r ≡ false → within_at first end (decimal n ++ r) ≡ Some (n, r)
within_read first end n r order below small ends =
    ap (kept_within first end) (number_read n r small ends)
    ∙ if_true (nat_le first n && nat_lt n end) (Some (n, r)) None (both_true (nat_le first n) (nat_lt n end) (le_true first n order) (lt_true n end below))

pub record IsPartner (first end : ℕ) (bytes : List ℕ) (n : ℕ) (rest : List ℕ) : Type 0 where
  pub is : bytes ≡ 32 ∷ (decimal n ++ rest)
  pub order : first ≤ n
  pub below : n < end

pub partner_found : (first end : ℕ) (bs : List ℕ) (n : ℕ) (r : List ℕ) → partner_at first end bs ≡ Some (n, r) → IsPartner first end bs n r
partner_found first end [] n r is = absurd (none_pair (n, r) is)
partner_found first end (c ∷ cs) n r is = by (c == 32) refl is
  where
    by : (b : Bool) → (c == 32) ≡ b → (if b then within_at first end cs else None) ≡ Some (n, r) → IsPartner first end (c ∷ cs) n r
    by false e h = absurd (none_pair (n, r) h)
    by true e h =
        let found = within_found first end cs n r h in
        record { is = ap (λ z. z ∷ cs) (eqb-true c 32 e) ∙ ap (λ z. 32 ∷ z) found.is; order = found.order; below = found.below }

pub partner_read : (first end n : ℕ) (r : List ℕ) → first ≤ n → n < end → n < 2 ^ 32 → begins_digit r ≡ false → partner_at first end (32 ∷ (decimal n ++ r)) ≡ Some (n, r)
partner_read first end n r order below small ends = within_read first end n r order below small ends
