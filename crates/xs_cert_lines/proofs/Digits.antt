-- Numbers that are read digit by digit, where they stand in bytes with a line feed after them.
use Rattle.std.proofs.Common.{◌≡◌, ◌⊎◌, ℕ, zero, suc, ◌+◌, ◌-◌, ◌*◌, ◌^◌, ◌<◌, ◌≤◌, Bool, true, false, ◌==◌, ◌&&◌, ◌||◌, nat_eq, nat_le, nat_lt, if◌then◌else◌, List, [], ◌∷◌, length, get_or, get_or-drop, drop, drop-cons, length-drop, Option, Some, None, refl, sym, ap, ◌∙◌, inl, inr, arith, eqb-true}
use Rattle.std.proofs.lemmas.Bool.{cases_lt}
use Rattle.xs_class.specs.Words.{is_digit}
use Rattle.xs_class.proofs.Truth.{and_true, le_is, lt_is, lt_true, if_true, if_false, or_left, or_right, and_no, false_true, eq_self}
use Rattle.xs_closed.specs.Rows.{has_number}
use Rattle.xs_cert_lines.specs.Numbers.{digit_at, number_after, kept_within}

-- where a line feed comes, there is a byte
pub feed_within : (at : ℕ) (bytes : List ℕ) → has_number (drop at bytes) 10 ≡ true → at < length bytes
feed_within zero [] has = absurd (false_true has)
feed_within zero (c ∷ cs) has = omega arith
feed_within (suc at) [] has = absurd (false_true has)
feed_within (suc at) (c ∷ cs) has = let more = feed_within at cs has in omega (arith, more)

-- and after a byte that is none it still comes
after_other : (c : ℕ) (cs : List ℕ) → (c ≡ 10 → ⊥) → has_number (c ∷ cs) 10 ≡ true → has_number cs 10 ≡ true
after_other c cs other has = by (nat_eq c 10) refl has
  where
    by : (b : Bool) → nat_eq c 10 ≡ b → (b || has_number cs 10) ≡ true → has_number cs 10 ≡ true
    by true e h = absurd (other (eqb-true c 10 e))
    by false e h = h

pub cut : (at : ℕ) (bytes : List ℕ) → has_number (drop at bytes) 10 ≡ true → drop at bytes ≡ get_or bytes at 0 ∷ drop (suc at) bytes
cut at bytes has = drop-cons bytes at 0 (feed_within at bytes has)

pub feed_after : (at : ℕ) (bytes : List ℕ) → (get_or bytes at 0 ≡ 10 → ⊥) → has_number (drop at bytes) 10 ≡ true → has_number (drop (suc at) bytes) 10 ≡ true
feed_after at bytes other has = after_other (get_or bytes at 0) (drop (suc at) bytes) other (sym (ap (λ z. has_number z 10) (cut at bytes has)) ∙ has)

-- what a byte that is a digit, or none, says
none_some : (d : ℕ) → ◌≡◌ {A = Option ℕ} None (Some d) → ⊥
none_some d e = cc

some_is : (c d : ℕ) → ◌≡◌ {A = Option ℕ} (Some c) (Some d) → c ≡ d
some_is c d e = cc

pub record IsDigit (c d : ℕ) : Type 0 where
  pub is : is_digit c ≡ true
  pub value : d ≡ c - 48
  pub low : 48 ≤ c
  pub high : c ≤ 57

pub digit_is : (c d : ℕ) → Some d ≡ digit_at c → IsDigit c d
digit_is c d e = by (is_digit c) refl e
  where
    by : (b : Bool) → is_digit c ≡ b → Some d ≡ (if b then Some (c - 48) else None) → IsDigit c d
    by false i h = absurd (none_some d (sym h))
    by true i h = let p = and_true (nat_le 48 c) (nat_le c 57) i in record { is = i; value = some_is d (c - 48) h; low = le_is 48 c p.0; high = le_is c 57 p.1 }

pub digit_no_feed : (c d : ℕ) → Some d ≡ digit_at c → c ≡ 10 → ⊥
digit_no_feed c d e feed = let is = digit_is c d e in absurd (omega (arith, is.low, feed))

-- a number that is too great stays so, whatever digits follow
kept_not : (first end n : ℕ) (rest : List ℕ) → end ≤ n → kept_within first end (Some (n, rest)) ≡ None
kept_not first end n rest great = if_false (nat_le first n && nat_lt n end) (Some (n, rest)) None (ap (λ b. nat_le first n && b) (not_below (nat_lt n end) refl) ∙ and_no (nat_le first n))
  where
    not_below : (b : Bool) → nat_lt n end ≡ b → b ≡ false
    not_below false e = refl
    not_below true e = absurd (omega (arith, lt_is n end e, great))

pub too_great : (first end n : ℕ) (bs : List ℕ) → end ≤ n → kept_within first end (number_after n bs) ≡ None
too_great first end n [] great = kept_not first end n [] great
too_great first end n (c ∷ cs) great = by (is_digit c) (too_great first end (n * 10 + (c - 48)) cs (omega (arith, great)))
  where
    third : (b : Bool) → kept_within first end (number_after (n * 10 + (c - 48)) cs) ≡ None → kept_within first end (if b then number_after (n * 10 + (c - 48)) cs else None) ≡ None
    third false again = refl
    third true again = again

    second : (b : Bool) → kept_within first end (number_after (n * 10 + (c - 48)) cs) ≡ None → kept_within first end (if b then None else (if nat_lt (n * 10 + (c - 48)) (2 ^ 32) then number_after (n * 10 + (c - 48)) cs else None)) ≡ None
    second true again = refl
    second false again = third (nat_lt (n * 10 + (c - 48)) (2 ^ 32)) again

    by : (b : Bool) → kept_within first end (number_after (n * 10 + (c - 48)) cs) ≡ None → kept_within first end (if b then (if n == 0 then None else (if nat_lt (n * 10 + (c - 48)) (2 ^ 32) then number_after (n * 10 + (c - 48)) cs else None)) else Some (n, c ∷ cs)) ≡ None
    by false again = kept_not first end n (c ∷ cs) great
    by true again = second (n == 0) again

-- one digit more, however great the number then is
pub one_more : (first end n c d : ℕ) (cs : List ℕ) → end ≤ 2 ^ 32 → 0 < n → Some d ≡ digit_at c → kept_within first end (number_after n (c ∷ cs)) ≡ kept_within first end (number_after (n * 10 + d) cs)
one_more first end n c d cs small some at =
    let is = digit_is c d at in
    let not_zero : (n == 0) ≡ false = grind arith in
    ap (kept_within first end)
    (if_true (is_digit c) (if n == 0 then None else (if nat_lt (n * 10 + (c - 48)) (2 ^ 32) then number_after (n * 10 + (c - 48)) cs else None)) (Some (n, c ∷ cs)) is.is
    ∙ if_false (n == 0) None (if nat_lt (n * 10 + (c - 48)) (2 ^ 32) then number_after (n * 10 + (c - 48)) cs else None) not_zero)
    ∙ by (nat_lt (n * 10 + (c - 48)) (2 ^ 32)) refl
    ∙ ap (λ k. kept_within first end (number_after (n * 10 + k) cs)) (sym is.value)
  where
    by : (b : Bool) → nat_lt (n * 10 + (c - 48)) (2 ^ 32) ≡ b → kept_within first end (if b then number_after (n * 10 + (c - 48)) cs else None) ≡ kept_within first end (number_after (n * 10 + (c - 48)) cs)
    by true e = refl
    by false e = sym (too_great first end (n * 10 + (c - 48)) cs (by_limit (cases_lt (n * 10 + (c - 48)) (2 ^ 32))))
      where
        by_limit : (n * 10 + (c - 48) < 2 ^ 32) ⊎ (2 ^ 32 ≤ n * 10 + (c - 48)) → end ≤ n * 10 + (c - 48)
        by_limit (inl l) = absurd (false_true (sym e ∙ lt_true (n * 10 + (c - 48)) (2 ^ 32) l))
        by_limit (inr g) = omega (arith, g, small)

-- where the last byte is a line feed
has_at : (k : ℕ) (bs : List ℕ) → k < length bs → get_or bs k 0 ≡ 10 → has_number bs 10 ≡ true
has_at k [] l e = absurd (omega (arith, l))
has_at zero (c ∷ cs) l e = or_left (nat_eq c 10) (has_number cs 10) (ap (λ z. nat_eq z 10) e ∙ eq_self 10)
has_at (suc k) (c ∷ cs) l e = or_right (nat_eq c 10) (has_number cs 10) (has_at k cs (omega (arith, l)) e)

pub last_feed : (start : ℕ) (bytes : List ℕ) → start < length bytes → get_or bytes (length bytes - 1) 0 ≡ 10 → has_number (drop start bytes) 10 ≡ true
last_feed start bytes l e =
    let there : start + (length bytes - 1 - start) ≡ length bytes - 1 = omega (arith, l) in
    has_at (length bytes - 1 - start) (drop start bytes) (omega (arith, length-drop start bytes, l)) (get_or-drop start bytes (length bytes - 1 - start) 0 ∙ ap (λ k. get_or bytes k 0) there ∙ e)

-- a step of the loop over digits
add_one : (n : ℕ) → suc n ≡ n + 1
add_one n = omega arith

pub digits_go_on : (first end n d e at : ℕ) (bytes : List ℕ) (all : Option (ℕ × List ℕ)) → end ≤ 2 ^ 32 → 0 < n → has_number (drop at bytes) 10 ≡ true → Some d ≡ digit_at (get_or bytes at 0) → e ≡ d
    → all ≡ kept_within first end (number_after n (drop at bytes)) → all ≡ kept_within first end (number_after (n * 10 + e) (drop (at + 1) bytes))
digits_go_on first end n d e at bytes all small some feed at_digit same so =
    so ∙ ap (λ z. kept_within first end (number_after n z)) (cut at bytes feed) ∙ one_more first end n (get_or bytes at 0) d (drop (suc at) bytes) small some at_digit
    ∙ ap (λ k. kept_within first end (number_after (n * 10 + k) (drop (suc at) bytes))) (sym same) ∙ ap (λ k. kept_within first end (number_after (n * 10 + e) (drop k bytes))) (add_one at)

pub feed_next : (at d : ℕ) (bytes : List ℕ) → has_number (drop at bytes) 10 ≡ true → Some d ≡ digit_at (get_or bytes at 0) → has_number (drop (at + 1) bytes) 10 ≡ true
feed_next at d bytes feed at_digit = sym (ap (λ k. has_number (drop k bytes) 10) (add_one at)) ∙ feed_after at bytes (digit_no_feed (get_or bytes at 0) d at_digit) feed

pub feed_cut : (at : ℕ) (bytes : List ℕ) → has_number (drop at bytes) 10 ≡ true → get_or bytes at 0 ≡ 10 → drop at bytes ≡ 10 ∷ drop (at + 1) bytes
feed_cut at bytes feed is = cut at bytes feed ∙ ap (λ z. z ∷ drop (suc at) bytes) is ∙ ap (λ k. 10 ∷ drop k bytes) (add_one at)
