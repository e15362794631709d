-- A test on a table says what the table has.
use Rattle.std.proofs.Common.{◌≡◌, ℕ, ◌≤◌, List, [], ◌∷◌, ◌++◌, Bool, true, false, ◌&&◌, ◌||◌, nat_le, refl, ◌∙◌, ap, arith}
use Rattle.std.specs.Prelude.{◌↔◌, IsTrue}
use Rattle.std.specs.Bool.{one_answer}
use Rattle.std.proofs.lemmas.Bool.Decides.{nat_tests}
use Rattle.xs_class.specs.Classes.{Has}
use Rattle.xs_class.specs.Tables.{char_table, name_start_table, name_more_table, IsChar, IsNameStart, IsNameChar, in_ranges, is_name_start}
use Rattle.xs_xml_laws.specs.Tables.{is_char, is_name_char}
use Rattle.xs_class.proofs.TableLaws.{in_is, is_in}

between : (a b c : ℕ) → (nat_le a c && nat_le c b) ≡ true → (a ≤ c) × (c ≤ b)
between a b c is = (grind (arith, nat_tests, is), grind (arith, nat_tests, is))

ranges_append : (c : ℕ) (rs ss : List (ℕ × ℕ)) → in_ranges c (rs ++ ss) ≡ (in_ranges c rs || in_ranges c ss)
ranges_append c [] ss = refl
ranges_append c (r ∷ rs) ss = ap (λ (x : Bool). (nat_le r.0 c && nat_le c r.1) || x) (ranges_append c rs ss) ∙ or_assoc (nat_le r.0 c && nat_le c r.1) (in_ranges c rs) (in_ranges c ss)
  where
    or_assoc : (x y z : Bool) → (x || (y || z)) ≡ ((x || y) || z)
    or_assoc true y z = refl
    or_assoc false y z = refl

same_answer : (t : Bool) (c : ℕ) (rs : List (ℕ × ℕ)) → IsTrue t ↔ Has rs c → t ≡ in_ranges c rs
same_answer t c rs is = one_answer t (in_ranges c rs) (is.0, is.1) (in_is c rs, is_in c rs)

-- the tests of the tables, where an answer says what the table has
pub char_is : (t : Bool) (c : ℕ) → IsTrue t ↔ IsChar c → t ≡ is_char c
unfolding is_char
char_is t c is = same_answer t c char_table is

pub name_start_is : (t : Bool) (c : ℕ) → IsTrue t ↔ IsNameStart c → t ≡ is_name_start c
unfolding is_name_start
name_start_is t c is = same_answer t c name_start_table is

pub name_char_is : (t : Bool) (c : ℕ) → IsTrue t ↔ IsNameChar c → t ≡ is_name_char c
unfolding is_name_char is_name_start
name_char_is t c is = same_answer t c (name_start_table ++ name_more_table) is ∙ ranges_append c name_start_table name_more_table
