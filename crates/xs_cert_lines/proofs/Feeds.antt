-- Where lines and the numbers in them end.
use Rattle.std.proofs.Common.{◌≡◌, ℕ, zero, suc, ◌+◌, ◌/◌, ◌%◌, ◌<◌, ◌==◌, Bool, true, false, nat_eq, nat_le, nat_lt, if◌then◌else◌, List, [], ◌∷◌, ◌++◌, get_or, decimal, refl, sym, ap, ◌∙◌, arith, append_assoc, eqb-true}
use Rattle.std.specs.Fmt.{digits, digits_onto, digit_glyph}
use Rattle.std.proofs.lemmas.Fmt.{decimal_injective}
use Rattle.xs_class.specs.Words.{is_digit}
use Rattle.xs_class.proofs.Truth.{both_true, eq_self, if_true, le_true, lt_true, or_false, neither}
use Rattle.xs_closed.specs.Rows.{has_number}
use Rattle.xs_cert_lines.specs.Lines.{Lines, written}
use Rattle.xs_cert_lines.specs.Numbers.{begins_digit}
use Rattle.xs_cert_lines.specs.Reading.{listed}
use Rattle.xs_cert_lines.specs.Laws.{IsLine, LinesAreOne, LinesGoOn, LinesAfterLines, SpacedIsLine, SetsAreLines, RowsBeginWithDigits, PairsAreOne}
use Rattle.xs_cert_lines.proofs.Pieces.{append_cancel}
use Rattle.xs_cert_lines.proofs.Marking.{spaced_is}

-- a list is cut at a number that is not in its front in one way
cut_once : (c : ℕ) (l m x y : List ℕ) → has_number l c ≡ false → has_number m c ≡ false → l ++ c ∷ x ≡ m ++ c ∷ y → (l ≡ m) × (x ≡ y)
cut_once c [] [] x y none none' e = (refl, rest e)
  where
    rest : c ∷ x ≡ c ∷ y → x ≡ y
    rest h = cc
cut_once c [] (b ∷ m) x y none none' e = absurd (there (sym (or_false (nat_eq b c) (has_number m c) none').0 ∙ ap (λ z. nat_eq z c) (sym (ap (λ (z : List ℕ). get_or z 0 0) e)) ∙ eq_self c))
  where
    there : false ≡ true → ⊥
    there h = cc
cut_once c (b ∷ l) [] x y none none' e = absurd (there (sym (or_false (nat_eq b c) (has_number l c) none).0 ∙ ap (λ z. nat_eq z c) (ap (λ (z : List ℕ). get_or z 0 0) e) ∙ eq_self c))
  where
    there : false ≡ true → ⊥
    there h = cc
cut_once c (a ∷ l) (b ∷ m) x y none none' e =
    let more = cut_once c l m x y (or_false (nat_eq a c) (has_number l c) none).1 (or_false (nat_eq b c) (has_number m c) none').1 (rest e) in
    (ap (λ z. z ∷ l) (ap (λ (z : List ℕ). get_or z 0 0) e) ∙ ap (λ z. b ∷ z) more.0, more.1)
  where
    rest : a ∷ (l ++ c ∷ x) ≡ b ∷ (m ++ c ∷ y) → l ++ c ∷ x ≡ m ++ c ∷ y
    rest h = cc

lacks_both : (c : ℕ) (l m : List ℕ) → has_number l c ≡ false → has_number m c ≡ false → has_number (l ++ m) c ≡ false
lacks_both c [] m none none' = none'
lacks_both c (a ∷ l) m none none' = let p = or_false (nat_eq a c) (has_number l c) none in neither (nat_eq a c) (has_number (l ++ m) c) p.0 (lacks_both c l m p.1 none')

-- no digit is a line feed or a space
glyph_is : (d : ℕ) → d < 10 → digit_glyph false d ≡ 48 + d
glyph_is d low = if_true (nat_lt d 10) (48 + d) (if false then 55 + d else 87 + d) (lt_true d 10 low)

glyph_lacks : (c d : ℕ) → c < 48 → d < 10 → nat_eq (digit_glyph false d) c ≡ false
glyph_lacks c d low small = by (nat_eq (digit_glyph false d) c) refl
  where
    by : (b : Bool) → nat_eq (digit_glyph false d) c ≡ b → b ≡ false
    by true e = absurd (omega (arith, glyph_is d small, eqb-true (digit_glyph false d) c e, low))
    by false e = refl

onto_lacks : (k n c : ℕ) (acc : List ℕ) → c < 48 → has_number acc c ≡ false → has_number (digits_onto k 10 false n acc) c ≡ false
onto_lacks zero n c acc low none = none
onto_lacks (suc k) n c acc low none = by (n / 10 == 0) (λ more. onto_lacks k (n / 10) c (digit_glyph false (n % 10) ∷ acc) low more)
  where
    one : has_number (digit_glyph false (n % 10) ∷ acc) c ≡ false
    one = neither (nat_eq (digit_glyph false (n % 10)) c) (has_number acc c) (glyph_lacks c (n % 10) low (omega arith)) none

    by : (b : Bool) → (has_number (digit_glyph false (n % 10) ∷ acc) c ≡ false → has_number (digits_onto k 10 false (n / 10) (digit_glyph false (n % 10) ∷ acc)) c ≡ false)
        → has_number (if b then digit_glyph false (n % 10) ∷ acc else digits_onto k 10 false (n / 10) (digit_glyph false (n % 10) ∷ acc)) c ≡ false
    by true again = one
    by false again = again one

decimal_lacks : (n c : ℕ) → c < 48 → has_number (decimal n) c ≡ false
unfolding digits
decimal_lacks n c low = onto_lacks 64 n c [] low refl

listed_lacks : (ns : List ℕ) → has_number (listed ns) 10 ≡ false
listed_lacks [] = refl
listed_lacks (n ∷ ns) = lacks_both 10 (decimal n) (listed ns) (decimal_lacks n 10 (omega arith)) (listed_lacks ns)

pub spaced_line : SpacedIsLine
spaced_line text ns line = ap (λ z. has_number z 10) (spaced_is text ns) ∙ lacks_both 10 text (listed ns) line (listed_lacks ns)

pub sets_lines : SetsAreLines
sets_lines [] = tt
sets_lines (r ∷ rs) = (spaced_line (decimal r.state) r.partners (decimal_lacks r.state 10 (omega arith)), sets_lines rs)

-- the first digit
glyph_digit : (d : ℕ) → d < 10 → is_digit (digit_glyph false d) ≡ true
glyph_digit d low =
    let is = glyph_is d low in
    both_true (nat_le 48 (digit_glyph false d)) (nat_le (digit_glyph false d) 57) (le_true 48 (digit_glyph false d) (omega (arith, is))) (le_true (digit_glyph false d) 57 (omega (arith, is, low)))

onto_begins : (k n : ℕ) (acc : List ℕ) → begins_digit acc ≡ true → begins_digit (digits_onto k 10 false n acc) ≡ true
onto_begins zero n acc begins = begins
onto_begins (suc k) n acc begins = by (n / 10 == 0) (onto_begins k (n / 10) (digit_glyph false (n % 10) ∷ acc) (glyph_digit (n % 10) (omega arith)))
  where
    by : (b : Bool) → begins_digit (digits_onto k 10 false (n / 10) (digit_glyph false (n % 10) ∷ acc)) ≡ true
        → begins_digit (if b then digit_glyph false (n % 10) ∷ acc else digits_onto k 10 false (n / 10) (digit_glyph false (n % 10) ∷ acc)) ≡ true
    by true again = glyph_digit (n % 10) (omega arith)
    by false again = again

some_begin : (k n : ℕ) (acc : List ℕ) → begins_digit (digits_onto (suc k) 10 false n acc) ≡ true
some_begin k n acc = by (n / 10 == 0)
  where
    by : (b : Bool) → begins_digit (if b then digit_glyph false (n % 10) ∷ acc else digits_onto k 10 false (n / 10) (digit_glyph false (n % 10) ∷ acc)) ≡ true
    by true = glyph_digit (n % 10) (omega arith)
    by false = onto_begins k (n / 10) (digit_glyph false (n % 10) ∷ acc) (glyph_digit (n % 10) (omega arith))

decimal_begins : (n : ℕ) → begins_digit (decimal n) ≡ true
unfolding digits
decimal_begins n = some_begin 63 n []

begins_before : (l m : List ℕ) → begins_digit l ≡ true → begins_digit (l ++ m) ≡ true
begins_before [] m begins = absurd (differ begins)
  where
    differ : false ≡ true → ⊥
    differ e = cc
begins_before (c ∷ l) m begins = begins

pub rows_begin : RowsBeginWithDigits
rows_begin r = ap begins_digit (spaced_is (decimal r.state) r.partners) ∙ begins_before (decimal r.state) (listed r.partners) (decimal_begins r.state)

line_then : (l a b : List ℕ) → ((l ++ 10 ∷ []) ++ a) ++ b ≡ l ++ 10 ∷ (a ++ b)
line_then l a b = append_assoc (l ++ 10 ∷ []) a b ∙ append_assoc l (10 ∷ []) (a ++ b)

-- the first of lines that stand one after another, and what follows it
first_once : (x : List ℕ) (xs : Lines) (y : List ℕ) (ys : Lines) (r s : List ℕ) → IsLine x → IsLine y → written (x ∷ xs) ++ r ≡ written (y ∷ ys) ++ s → (x ≡ y) × (written xs ++ r ≡ written ys ++ s)
first_once x xs y ys r s one one' e = cut_once 10 x y (written xs ++ r) (written ys ++ s) one one' (sym (line_then x (written xs) r) ∙ e ∙ line_then y (written ys) s)

pub lines_go_on : LinesGoOn
lines_go_on [] ys r s are are' long e = (ys, refl, are', e)
lines_go_on (x ∷ xs) [] r s are are' long e = absurd (omega (arith, long))
lines_go_on (x ∷ xs) (y ∷ ys) r s are are' long e =
    let p = first_once x xs y ys r s are.0 are'.0 e in
    let more = lines_go_on xs ys r s are.1 are'.1 (omega (arith, long)) p.1 in
    (more.0, ap (λ z. z ∷ ys) (sym p.0) ∙ ap (λ z. x ∷ z) more.1, more.2, more.3)

pub lines_once : LinesAreOne
lines_once [] [] r s are are' long e = (refl, e)
lines_once [] (y ∷ ys) r s are are' long e = absurd (omega (arith, long))
lines_once (x ∷ xs) [] r s are are' long e = absurd (omega (arith, long))
lines_once (x ∷ xs) (y ∷ ys) r s are are' long e =
    let p = first_once x xs y ys r s are.0 are'.0 e in
    let more = lines_once xs ys r s are.1 are'.1 (omega (arith, long)) p.1 in
    (ap (λ z. z ∷ xs) p.0 ∙ ap (λ z. y ∷ z) more.0, more.1)

pub lines_after : LinesAfterLines
lines_after [] ys are are' = are'
lines_after (x ∷ xs) ys are are' = (are.0, lines_after xs ys are.1 are')

pub pairs_once : PairsAreOne
pairs_once text h k i j h_low k_low i_low j_low e =
    let same = append_cancel text (32 ∷ (decimal h ++ 32 ∷ decimal k)) (32 ∷ (decimal i ++ 32 ∷ decimal j)) (sym (append_assoc text (32 ∷ decimal h) (32 ∷ decimal k)) ∙ e ∙ append_assoc text (32 ∷ decimal i) (32 ∷ decimal j)) in
    let p = cut_once 32 (decimal h) (decimal i) (decimal k) (decimal j) (decimal_lacks h 32 (omega arith)) (decimal_lacks i 32 (omega arith)) (rest (decimal h ++ 32 ∷ decimal k) (decimal i ++ 32 ∷ decimal j) same) in
    (decimal_injective h i h_low i_low p.0, decimal_injective k j k_low j_low p.1)
  where
    rest : (a b : List ℕ) → 32 ∷ a ≡ 32 ∷ b → a ≡ b
    rest a b h = cc
