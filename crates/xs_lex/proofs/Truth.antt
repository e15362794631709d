-- Tests that come out true or false, and what the classes of characters say of single ones.
use Rattle.xs_class.specs.Classes.{Has}
use Rattle.xs_class.specs.Tables.{name_start_table, name_more_table, in_ranges, is_name_start}
use Rattle.std.specs.Prelude.{IsTrue, ◌↔◌}
use Rattle.std.proofs.Common.{nat_le, List, [], ◌∷◌, ◌++◌, ◌≡◌, ℕ, true, false, Bool, not, ◌&&◌, ◌||◌, ◌==◌, refl, sym, subst, eqb-true}
use Rattle.xs_lex.specs.Classes.{is_name_char, is_plain_start, is_plain_char, is_white}
use Rattle.xs_class.proofs.Truth.{and_true}
use Rattle.xs_class.proofs.TableLaws.{in_is, is_in}

pub plain_start_out : (is_plain_start 34 ≡ false) × (is_plain_start 47 ≡ false) × (is_plain_start 60 ≡ false) × (is_plain_start 58 ≡ false) × (is_plain_start 61 ≡ false) × (is_plain_start 91 ≡ false) × (is_plain_start 93 ≡ false) × (is_plain_start 62 ≡ false)
unfolding is_plain_start is_name_start
plain_start_out = (refl, refl, refl, refl, refl, refl, refl, refl)

in_front : (c : ℕ) (rs ss : List (ℕ × ℕ)) → in_ranges c rs ≡ true → in_ranges c (rs ++ ss) ≡ true
in_front c [] ss is = absurd (cc)
in_front c (r ∷ rs) ss is = by (nat_le r.0 c && nat_le c r.1) is (in_front c rs ss)
  where
    by : (t : Bool) → (t || in_ranges c rs) ≡ true → (in_ranges c rs ≡ true → in_ranges c (rs ++ ss) ≡ true) → (t || in_ranges c (rs ++ ss)) ≡ true
    by true h again = refl
    by false h again = again h

start_in : (c : ℕ) → is_name_start c ≡ true → is_name_char c ≡ true
unfolding is_name_start is_name_char
start_in c is = in_front c name_start_table name_more_table is

-- a test that answers as the table does
pub start_test : (t : Bool) (c : ℕ) → IsTrue t ↔ Has name_start_table c → t ≡ is_name_start c
unfolding is_name_start
start_test t c same = by t (in_ranges c name_start_table) refl same
  where
    by : (t u : Bool) → in_ranges c name_start_table ≡ u → IsTrue t ↔ Has name_start_table c → t ≡ u
    by true true e s = refl
    by false false e s = refl
    by true false e s = let yes = is_in c name_start_table (s.0 refl) in absurd (cc)
    by false true e s = let yes = s.1 (in_is c name_start_table e) in absurd (cc)

pub char_test : (t : Bool) (c : ℕ) → IsTrue t ↔ Has (name_start_table ++ name_more_table) c → t ≡ is_name_char c
unfolding is_name_char
char_test t c same = by t (in_ranges c (name_start_table ++ name_more_table)) refl same
  where
    by : (t u : Bool) → in_ranges c (name_start_table ++ name_more_table) ≡ u → IsTrue t ↔ Has (name_start_table ++ name_more_table) c → t ≡ u
    by true true e s = refl
    by false false e s = refl
    by true false e s = let yes = is_in c (name_start_table ++ name_more_table) (s.0 refl) in absurd (cc)
    by false true e s = let yes = s.1 (in_is c (name_start_table ++ name_more_table) e) in absurd (cc)

pub plain_start_in : (c : ℕ) → is_plain_start c ≡ true → is_plain_char c ≡ true
unfolding is_plain_start is_plain_char
plain_start_in c is = let p = and_true (is_name_start c) (not (c == 58)) is in rw (start_in c p.0, p.1) refl

pub colon_out : is_plain_char 58 ≡ false
unfolding is_plain_char is_name_char is_name_start
colon_out = refl

pub hash_no_white : is_white 35 ≡ false
unfolding is_white
hash_no_white = refl

pub line_end_white : is_white 10 ≡ true
unfolding is_white
line_end_white = refl

white_out : (is_plain_char 32 ≡ false) × (is_plain_char 9 ≡ false) × (is_plain_char 13 ≡ false) × (is_plain_char 10 ≡ false)
unfolding is_plain_char is_name_char
white_out = (refl, refl, refl, refl)

-- white space ends a name
pub white_ends : (c : ℕ) → is_white c ≡ true → (is_plain_char c ≡ false) × ((c == 58) ≡ false) × ((c == 47) ≡ false)
unfolding is_white
white_ends c is = by (c == 32) (c == 9) (c == 13) (c == 10) refl refl refl refl is
  where
    here : (d : ℕ) → (c == d) ≡ true → (is_plain_char d ≡ false) × ((d == 58) ≡ false) × ((d == 47) ≡ false) → (is_plain_char c ≡ false) × ((c == 58) ≡ false) × ((c == 47) ≡ false)
    here d e f = subst (λ (z : ℕ). (is_plain_char z ≡ false) × ((z == 58) ≡ false) × ((z == 47) ≡ false)) (sym (eqb-true c d e)) f

    by : (t1 t2 t3 t4 : Bool) → (c == 32) ≡ t1 → (c == 9) ≡ t2 → (c == 13) ≡ t3 → (c == 10) ≡ t4 → (t1 || (t2 || (t3 || t4))) ≡ true → (is_plain_char c ≡ false) × ((c == 58) ≡ false) × ((c == 47) ≡ false)
    by true t2 t3 t4 e1 e2 e3 e4 h = here 32 e1 (white_out.0, refl, refl)
    by false true t3 t4 e1 e2 e3 e4 h = here 9 e2 (white_out.1, refl, refl)
    by false false true t4 e1 e2 e3 e4 h = here 13 e3 (white_out.2, refl, refl)
    by false false false true e1 e2 e3 e4 h = here 10 e4 (white_out.3, refl, refl)
    by false false false false e1 e2 e3 e4 h = absurd (cc)
