-- A quoted string is read exactly: what its units spell is read, and what is read is spelt by units.
use Rattle.std.proofs.Common.{◌≡◌, ◌⊎◌, inl, inr, ℕ, suc, ◌+◌, ◌*◌, ◌<◌, ◌≤◌, List, [], ◌∷◌, ◌++◌, map, length, length-append, append-nil, append_assoc, add-zero, Some, None, true, false, Bool, not, ◌&&◌, ◌||◌, if◌then◌else◌, ◌==◌, nat_lt, nat_le, refl, sym, ap, ◌∙◌, subst, arith, eqb-true}
use Rattle.std.specs.declared.option.Option.{Option}
use Rattle.std.specs.List.{list_all}
use Rattle.std.specs.Char.{digit_value}
use Rattle.std.proofs.lemmas.Bool.Decides.{nat_tests}
use Rattle.xs_lex.specs.declared.quoted.Spot.{Spot}
use Rattle.xs_lex.specs.declared.quoted.Spot.TheVariants.{Between, Escaped, Opened, Digits}
use Rattle.xs_lex.specs.Units.{QuotedUnit, plain, escaped, coded, number, is_hex, is_scalar, is_escape, escape_char, is_quoted_unit, spelt_quoted_unit, spelt_quoted, meaning}
use Rattle.xs_lex.specs.Scan.{spot_if, spot_after, closes, given, quoted_end, value_at}
use Rattle.xs_lex.proofs.UnitsRead.{IsRead}
use Rattle.xs_class.proofs.Truth.{and_true, both_true, not_true, or_false, lt_true, le_is, le_true, lt_is, no_other}
use Rattle.xs_class.proofs.Lists.{some_inj}

-- the characters lead from one spot to another and give these characters
pub Walk : Spot → List ℕ → Spot → List ℕ → Type 0
Walk s [] t out = (s ≡ t) × (out ≡ [])
Walk s (c ∷ cs) t out = (m : Spot) × (o : List ℕ) × (closes s c ≡ false) × (spot_after s c ≡ Some m) × Walk m cs t o × (out ≡ given s c ++ o)

pub walk_end : (s t : Spot) (xs out : List ℕ) (k : ℕ) (rest : List ℕ) → Walk s xs t out → quoted_end (Some s) k (xs ++ rest) ≡ quoted_end (Some t) (k + length xs) rest
unfolding Walk
walk_end s t [] out k rest w = rw (add-zero k) (ap (λ (z : Spot). quoted_end (Some z) k rest) w.0)
walk_end s t (x ∷ xs) out k rest w =
    let first : quoted_end (Some s) k (x ∷ (xs ++ rest)) ≡ quoted_end (Some w.0) (k + 1) (xs ++ rest) = rw (w.2, w.3) refl in
    let more = walk_end w.0 t xs w.1 (k + 1) rest w.4 in
    let sum : k + 1 + length xs ≡ k + suc (length xs) = omega arith in
    first ∙ more ∙ ap (λ (n : ℕ). quoted_end (Some t) n rest) sum

pub walk_value : (s t : Spot) (xs out rest : List ℕ) → Walk s xs t out → value_at (Some s) (xs ++ rest) ≡ out ++ value_at (Some t) rest
unfolding Walk
walk_value s t [] out rest w = rw w.1 (ap (λ (z : Spot). value_at (Some z) rest) w.0)
walk_value s t (x ∷ xs) out rest w =
    let first : value_at (Some s) (x ∷ (xs ++ rest)) ≡ given s x ++ value_at (Some w.0) (xs ++ rest) = rw (w.2, w.3) refl in
    let more = walk_value w.0 t xs w.1 rest w.4 in
    first ∙ ap (λ (z : List ℕ). given s x ++ z) more ∙ rw w.5 (sym (append_assoc (given s x) w.1 (value_at (Some t) rest)))

-- numbers only grow by more digits
number_grows : (n : ℕ) (ds : List ℕ) → n ≤ number n ds
number_grows n [] = omega arith
number_grows n (d ∷ ds) = let more = number_grows (n * 16 + digit_value d) ds in omega arith

hex_no_brace : (d : ℕ) → is_hex d ≡ true → (d == 125) ≡ false
hex_no_brace d is = no_other is_hex d 125 is refl

digits_walk : (ds : List ℕ) (n v : ℕ) → list_all is_hex ds ≡ true → n + length ds ≤ 6 → number v ds < 0x110000 → Walk (Digits n v) ds (Digits (n + length ds) (number v ds)) []
unfolding Walk
digits_walk [] n v hex few low = (rw (add-zero n) refl, refl)
digits_walk (d ∷ ds) n v hex few low =
    let p = and_true (is_hex d) (list_all is_hex ds) hex in
    let grown = number_grows (v * 16 + digit_value d) ds in
    let low_now : nat_lt (v * 16 + digit_value d) 0x110000 ≡ true = lt_true (v * 16 + digit_value d) 0x110000 (omega arith) in
    let few_now : nat_lt n 6 ≡ true = lt_true n 6 (omega arith) in
    let next_ : spot_after (Digits n v) d ≡ Some (Digits (n + 1) (v * 16 + digit_value d)) = rw (hex_no_brace d p.0, few_now, p.0, low_now) refl in
    let more = digits_walk ds (n + 1) (v * 16 + digit_value d) p.1 (omega arith) low in
    let sum : n + 1 + length ds ≡ n + suc (length ds) = omega arith in
    let gives : [] ≡ given (Digits n v) d ++ [] = rw (hex_no_brace d p.0) refl in
    (Digits (n + 1) (v * 16 + digit_value d), [], refl, next_, subst (λ (m : ℕ). Walk (Digits (n + 1) (v * 16 + digit_value d)) ds (Digits m (number (v * 16 + digit_value d) ds)) []) sum more, gives)

walk_then : (s m t : Spot) (xs ys out more : List ℕ) → Walk s xs m out → Walk m ys t more → Walk s (xs ++ ys) t (out ++ more)
unfolding Walk
walk_then s m t [] ys out more a b = rw a.1 (subst (λ (z : Spot). Walk z ys t more) (sym a.0) b)
walk_then s m t (x ∷ xs) ys out more a b = (a.0, a.1 ++ more, a.2, a.3, walk_then a.0 m t xs ys a.1 more a.4 b, rw a.5 (append_assoc (given s x) a.1 more))

scalar_low : (n : ℕ) → is_scalar n ≡ true → n < 0x110000
scalar_low n is = grind (arith, nat_tests)

one_more : (n : ℕ) → nat_le 1 n ≡ true → 1 ≤ n
one_more n is = grind (arith, nat_tests)

escape_no_u : (c : ℕ) → is_escape c ≡ true → (c == 117) ≡ false
escape_no_u c is = no_other is_escape c 117 is refl

pub unit_walk : (u : QuotedUnit) → is_quoted_unit u ≡ true → Walk Between (spelt_quoted_unit u []) Between (meaning u ∷ [])
unfolding Walk
unit_walk (plain c) is =
    let p = or_false (c == 34) (c == 92 || c == 10) (not_true (c == 34 || (c == 92 || c == 10)) is) in
    let q = or_false (c == 92) (c == 10) p.1 in
    (Between, [], p.0, rw (q.0, q.1) refl, (refl, refl), rw q.0 refl)
unit_walk (escaped c) is =
    (Escaped, escape_char c ∷ [], refl, refl, (Between, [], refl, rw (escape_no_u c is, is) refl, (refl, refl), rw (escape_no_u c is) refl), refl)
unit_walk (coded ds) is =
    let p = and_true (list_all is_hex ds) (nat_le 1 (length ds) && (nat_le (length ds) 6 && is_scalar (number 0 ds))) is in
    let q = and_true (nat_le 1 (length ds)) (nat_le (length ds) 6 && is_scalar (number 0 ds)) p.1 in
    let r = and_true (nat_le (length ds) 6) (is_scalar (number 0 ds)) q.1 in
    let digits = digits_walk ds 0 0 p.0 (le_is (0 + length ds) 6 (rw (zero_add (length ds)) r.0)) (scalar_low (number 0 ds) r.1) in
    let last : Walk (Digits (0 + length ds) (number 0 ds)) (125 ∷ []) Between (number 0 ds ∷ []) = (Between, [], refl, rw (zero_add (length ds), q.0, r.1) refl, (refl, refl), rw r.1 refl) in
    let inside = walk_then (Digits 0 0) (Digits (0 + length ds) (number 0 ds)) Between ds (125 ∷ []) [] (number 0 ds ∷ []) digits last in
    (Escaped, number 0 ds ∷ [], refl, refl, (Opened, number 0 ds ∷ [], refl, refl, (Digits 0 0, number 0 ds ∷ [], refl, refl, inside, refl), refl), refl)
  where
    zero_add : (n : ℕ) → 0 + n ≡ n
    zero_add n = omega arith

pub unit_front : (u : QuotedUnit) (rest : List ℕ) → spelt_quoted_unit u rest ≡ spelt_quoted_unit u [] ++ rest
unit_front (plain c) rest = refl
unit_front (escaped c) rest = refl
unit_front (coded ds) rest = ap (λ (z : List ℕ). 92 ∷ 117 ∷ 123 ∷ z) (sym (append_assoc ds (125 ∷ []) rest))

pub units_front : (us : List QuotedUnit) (rest : List ℕ) → spelt_quoted us rest ≡ spelt_quoted us [] ++ rest
units_front [] rest = refl
units_front (u ∷ us) rest =
    unit_front u (spelt_quoted us rest) ∙ ap (λ (z : List ℕ). spelt_quoted_unit u [] ++ z) (units_front us rest) ∙ sym (append_assoc (spelt_quoted_unit u []) (spelt_quoted us []) rest) ∙ ap (λ (z : List ℕ). z ++ rest) (sym (unit_front u (spelt_quoted us [])))

pub units_walk : (us : List QuotedUnit) → list_all is_quoted_unit us ≡ true → Walk Between (spelt_quoted us []) Between (map meaning us)
unfolding Walk
units_walk [] each = (refl, refl)
units_walk (u ∷ us) each =
    let p = and_true (is_quoted_unit u) (list_all is_quoted_unit us) each in
    subst (λ (z : List ℕ). Walk Between z Between (meaning u ∷ map meaning us)) (sym (unit_front u (spelt_quoted us []))) (walk_then Between Between Between (spelt_quoted_unit u []) (spelt_quoted us []) (meaning u ∷ []) (map meaning us) (unit_walk u p.0) (units_walk us p.1))

-- what units spell is read, up to the closing mark
pub quoted_read : (us : List QuotedUnit) (k : ℕ) (rest : List ℕ) → list_all is_quoted_unit us ≡ true → quoted_end (Some Between) k (spelt_quoted us (34 ∷ rest)) ≡ Some (k + length (spelt_quoted us []) + 1)
quoted_read us k rest each =
    ap (λ (z : List ℕ). quoted_end (Some Between) k z) (units_front us (34 ∷ rest)) ∙ walk_end Between Between (spelt_quoted us []) (map meaning us) k (34 ∷ rest) (units_walk us each)

pub value_read : (us : List QuotedUnit) (rest : List ℕ) → list_all is_quoted_unit us ≡ true → value_at (Some Between) (spelt_quoted us (34 ∷ rest)) ≡ map meaning us
value_read us rest each =
    ap (λ (z : List ℕ). value_at (Some Between) z) (units_front us (34 ∷ rest)) ∙ walk_value Between Between (spelt_quoted us []) (map meaning us) (34 ∷ rest) (units_walk us each) ∙ append-nil (map meaning us)

-- the characters of the unit that has begun
pub Pending : Spot → List ℕ → Type 0
Pending Between p = p ≡ []
Pending Escaped p = p ≡ 92 ∷ []
Pending Opened p = p ≡ 92 ∷ 117 ∷ []
Pending (Digits n v) p = (ds : List ℕ) × (p ≡ 92 ∷ 117 ∷ 123 ∷ ds) × (list_all is_hex ds ≡ true) × (length ds ≡ n) × (number 0 ds ≡ v) × (n ≤ 6)

-- one more character belongs to the unit, or ends it
Goes : Spot → List ℕ → Type 0
Goes m p = Pending m p ⊎ ((u : QuotedUnit) × (m ≡ Between) × (is_quoted_unit u ≡ true) × (spelt_quoted_unit u [] ≡ p))

if_some : (t : Bool) (s m : Spot) → spot_if t s ≡ Some m → (t ≡ true) × (s ≡ m)
if_some true s m is = (refl, some_inj s m is)
if_some false s m is = absurd (cc)

all_push : (f : ℕ → Bool) (xs : List ℕ) (x : ℕ) → list_all f xs ≡ true → f x ≡ true → list_all f (xs ++ x ∷ []) ≡ true
all_push f [] x all here = both_true (f x) true here refl
all_push f (y ∷ ys) x all here = let p = and_true (f y) (list_all f ys) all in both_true (f y) (list_all f (ys ++ x ∷ [])) p.0 (all_push f ys x p.1 here)

number_push : (n : ℕ) (ds : List ℕ) (d : ℕ) → number n (ds ++ d ∷ []) ≡ number n ds * 16 + digit_value d
number_push n [] d = refl
number_push n (e ∷ ds) d = number_push (n * 16 + digit_value e) ds d

goes_between : (c : ℕ) (m : Spot) → (c == 34) ≡ false → spot_after Between c ≡ Some m → Goes m (c ∷ [])
unfolding Goes Pending
goes_between c m shut is = by (c == 92) (c == 10) refl refl is
  where
    by : (t u : Bool) → (c == 92) ≡ t → (c == 10) ≡ u → (if t then Some Escaped else spot_if (not u) Between) ≡ Some m → Goes m (c ∷ [])
    by true u e f h = let q : c ≡ 92 = eqb-true c 92 e in inl (subst (λ (z : Spot). Pending z (c ∷ [])) (some_inj Escaped m h) (ap (λ (z : ℕ). z ∷ []) q))
    by false true e f h = absurd (cc)
    by false false e f h = inr (plain c, sym (some_inj Between m h), rw (shut, e, f) refl, refl)

goes_escaped : (c : ℕ) (m : Spot) → spot_after Escaped c ≡ Some m → Goes m (92 ∷ c ∷ [])
unfolding Goes Pending
goes_escaped c m is = by (c == 117) refl is
  where
    by : (t : Bool) → (c == 117) ≡ t → (if t then Some Opened else spot_if (is_escape c) Between) ≡ Some m → Goes m (92 ∷ c ∷ [])
    by true e h = let q : c ≡ 117 = eqb-true c 117 e in inl (subst (λ (z : Spot). Pending z (92 ∷ c ∷ [])) (some_inj Opened m h) (ap (λ (z : ℕ). 92 ∷ z ∷ []) q))
    by false e h = let p = if_some (is_escape c) Between m h in inr (escaped c, sym p.1, p.0, refl)

goes_opened : (c : ℕ) (m : Spot) → spot_after Opened c ≡ Some m → Goes m (92 ∷ 117 ∷ c ∷ [])
unfolding Goes Pending
goes_opened c m is =
    let p = if_some (c == 123) (Digits 0 0) m is in
    let q : c ≡ 123 = eqb-true c 123 p.0 in
    inl (subst (λ (z : Spot). Pending z (92 ∷ 117 ∷ c ∷ [])) p.1 ([], ap (λ (z : ℕ). 92 ∷ 117 ∷ z ∷ []) q, refl, refl, refl, omega arith))

goes_digits : (ds : List ℕ) (n v c : ℕ) (m : Spot) → list_all is_hex ds ≡ true → length ds ≡ n → number 0 ds ≡ v → n ≤ 6 → spot_after (Digits n v) c ≡ Some m → Goes m (92 ∷ 117 ∷ 123 ∷ (ds ++ c ∷ []))
unfolding Goes Pending
goes_digits ds n v c m hex count value few is = by (c == 125) refl is
  where
    by : (t : Bool) → (c == 125) ≡ t → (if t then spot_if (nat_le 1 n && is_scalar v) Between else spot_if (nat_lt n 6 && (is_hex c && nat_lt (v * 16 + digit_value c) 0x110000)) (Digits (n + 1) (v * 16 + digit_value c))) ≡ Some m → Goes m (92 ∷ 117 ∷ 123 ∷ (ds ++ c ∷ []))
    by true e h =
        let p = if_some (nat_le 1 n && is_scalar v) Between m h in
        let q = and_true (nat_le 1 n) (is_scalar v) p.0 in
        let brace : c ≡ 125 = eqb-true c 125 e in
        let six : nat_le n 6 ≡ true = le_true n 6 few in
        inr (coded ds, sym p.1, rw (hex, count, value, q.0, six, q.1) refl, ap (λ (z : ℕ). 92 ∷ 117 ∷ 123 ∷ (ds ++ z ∷ [])) (sym brace))
    by false e h =
        let p = if_some (nat_lt n 6 && (is_hex c && nat_lt (v * 16 + digit_value c) 0x110000)) (Digits (n + 1) (v * 16 + digit_value c)) m h in
        let q = and_true (nat_lt n 6) (is_hex c && nat_lt (v * 16 + digit_value c) 0x110000) p.0 in
        let r = and_true (is_hex c) (nat_lt (v * 16 + digit_value c) 0x110000) q.1 in
        let less : n < 6 = lt_is n 6 q.0 in
        let longer : length (ds ++ c ∷ []) ≡ n + 1 = omega (arith, length-append ds (c ∷ [])) in
        let more : number 0 (ds ++ c ∷ []) ≡ v * 16 + digit_value c = number_push 0 ds c ∙ ap (λ (z : ℕ). z * 16 + digit_value c) value in
        let up : n + 1 ≤ 6 = omega arith in
        inl (subst (λ (z : Spot). Pending z (92 ∷ 117 ∷ 123 ∷ (ds ++ c ∷ []))) p.1 (ds ++ c ∷ [], refl, all_push is_hex ds c hex r.0, longer, more, up))

goes_on : (s m : Spot) (p : List ℕ) (c : ℕ) → Pending s p → closes s c ≡ false → spot_after s c ≡ Some m → Goes m (p ++ c ∷ [])
unfolding Pending
goes_on Between m p c pend shut is = rw pend (goes_between c m shut is)
goes_on Escaped m p c pend shut is = rw pend (goes_escaped c m is)
goes_on Opened m p c pend shut is = rw pend (goes_opened c m is)
goes_on (Digits n v) m p c pend shut is = rw pend.1 (goes_digits pend.0 n v c m pend.2 pend.3 pend.4 pend.5 is)

-- a string's units that were read, up to the quotation mark
abbrev pub IsReadQuoted : List ℕ → List ℕ → ℕ → ℕ → Type 0
IsReadQuoted before text k n = IsRead is_quoted_unit spelt_quoted 34 before text k n

closes_is : (s : Spot) (p : List ℕ) (c : ℕ) → Pending s p → closes s c ≡ true → (p ≡ []) × (c ≡ 34)
unfolding Pending
closes_is Between p c pend is = (pend, eqb-true c 34 is)
closes_is Escaped p c pend is = absurd (cc)
closes_is Opened p c pend is = absurd (cc)
closes_is (Digits n v) p c pend is = absurd (cc)

some_spot : (o : Option Spot) (k : ℕ) (cs : List ℕ) (n : ℕ) → quoted_end o k cs ≡ Some n → (m : Spot) × (o ≡ Some m) × (quoted_end (Some m) k cs ≡ Some n)
some_spot None k cs n is = absurd (cc)
some_spot (Some m) k cs n is = (m, refl, is)

pending_none : Pending Between []
unfolding Pending
pending_none = refl

ended_here : (s : Spot) (p : List ℕ) (c : ℕ) (cs : List ℕ) (k n : ℕ) → Pending s p → closes s c ≡ true → k + 1 ≡ n → IsReadQuoted p (c ∷ cs) k n
ended_here s p c cs k n pend e h =
    let q = closes_is s p c pend e in
    record { units = []; rest = cs; each = refl; spells = rw (q.0, q.1) refl; count = omega arith }

goes_further : (p : List ℕ) (c : ℕ) (cs : List ℕ) (k n : ℕ) (m : Spot) → Goes m (p ++ c ∷ []) → quoted_end (Some m) (k + 1) cs ≡ Some n → ((t : Spot) (q : List ℕ) → Pending t q → quoted_end (Some t) (k + 1) cs ≡ Some n → IsReadQuoted q cs (k + 1) n) → IsReadQuoted p (c ∷ cs) k n
unfolding Goes
goes_further p c cs k n m (inl pend_more) h again =
    let r = again m (p ++ c ∷ []) pend_more h in
    record { units = r.units; rest = r.rest; each = r.each; spells = sym (append_assoc p (c ∷ []) cs) ∙ r.spells; count = (let e = r.count in omega arith) }
goes_further p c cs k n m (inr u) h again =
    let r = again Between [] pending_none (subst (λ (z : Spot). quoted_end (Some z) (k + 1) cs ≡ Some n) u.1 h) in
    record { units = u.0 ∷ r.units; rest = r.rest; each = both_true (is_quoted_unit u.0) (list_all is_quoted_unit r.units) u.2 r.each; spells = sym (append_assoc p (c ∷ []) cs) ∙ ap (λ (z : List ℕ). z ++ cs) (sym u.3) ∙ sym (unit_front u.0 cs) ∙ ap (λ (z : List ℕ). spelt_quoted_unit u.0 z) r.spells; count = (let e = r.count in omega arith) }

one_character : (t : Bool) (s : Spot) (p : List ℕ) (c : ℕ) (cs : List ℕ) (k n : ℕ) → Pending s p → closes s c ≡ t → (if t then Some (k + 1) else quoted_end (spot_after s c) (k + 1) cs) ≡ Some n → ((z : Spot) (q : List ℕ) → Pending z q → quoted_end (Some z) (k + 1) cs ≡ Some n → IsReadQuoted q cs (k + 1) n) → IsReadQuoted p (c ∷ cs) k n
one_character true s p c cs k n pend e h again = ended_here s p c cs k n pend e (some_inj (k + 1) n h)
one_character false s p c cs k n pend e h again =
    let o = some_spot (spot_after s c) (k + 1) cs n h in
    goes_further p c cs k n o.0 (goes_on s o.0 p c pend e o.1) o.2 again

pub quoted_is : (cs : List ℕ) (s : Spot) (p : List ℕ) (k n : ℕ) → Pending s p → quoted_end (Some s) k cs ≡ Some n → IsReadQuoted p cs k n
quoted_is [] s p k n pend is = absurd (cc)
quoted_is (c ∷ cs) s p k n pend is = one_character (closes s c) s p c cs k n pend refl is (λ z q pend_z g. quoted_is cs z q (k + 1) n pend_z g)

pub quoted_found : (cs : List ℕ) (k n : ℕ) → quoted_end (Some Between) k cs ≡ Some n → IsReadQuoted [] cs k n
quoted_found cs k n is = quoted_is cs Between [] k n pending_none is
