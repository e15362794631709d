-- What the numbers of symbols are.
use Rattle.std.proofs.Common.{◌≡◌, ℕ, ◌<◌, ◌+◌, ◌*◌, ◌-◌, ◌/◌, ◌%◌, true, false, nat_lt, ◌==◌, refl, arith}
use Rattle.std.specs.Char.{IsScalar}
use Rattle.std.proofs.lemmas.Bool.Decides.{nat_tests}
use Rattle.xs_class.specs.Marks.{attr_end, opening_mark, attribute_mark, closing_mark}
use Rattle.xs_xml_laws.specs.Tables.{is_char}
use Rattle.xs_xml_out.specs.declared.kind.SymbolKind.TheVariants.{Char, ValueEnd, Opening, Attribute, Closing}
use Rattle.xs_xml_out.specs.Written.{symbol_kind, kind_of_name}

char_below : (c : ℕ) → is_char c ≡ true → nat_lt c 1114112 ≡ true
unfolding is_char
char_below c is = grind (arith, nat_tests, is)

pub char_scalar : (c : ℕ) → is_char c ≡ true → IsScalar c
unfolding is_char
char_scalar c is = grind (arith, nat_tests, is)

pub symbol_kind-char : (c : ℕ) → is_char c ≡ true → symbol_kind c ≡ Char c
unfolding symbol_kind
symbol_kind-char c is = rw (char_below c is) refl

scalar_below : (c : ℕ) → IsScalar c → nat_lt c 1114112 ≡ true
scalar_below c is = grind (arith, nat_tests, is)

pub symbol_kind-scalar : (c : ℕ) → IsScalar c → symbol_kind c ≡ Char c
unfolding symbol_kind
symbol_kind-scalar c is = rw (scalar_below c is) refl

pub symbol_kind-attr_end : symbol_kind attr_end ≡ ValueEnd
unfolding symbol_kind
symbol_kind-attr_end = refl

-- the number of a mark of name k
kind_of_mark : (m j k : ℕ) → m ≡ 1114114 + 3 * k + j → j < 3 → symbol_kind m ≡ kind_of_name j k
unfolding symbol_kind
kind_of_mark m j k is low =
    let a : nat_lt m 1114112 ≡ false = grind (arith, nat_tests) in
    let b : (m == 1114112) ≡ false = grind (arith, nat_tests) in
    let s : (m == 1114113) ≡ false = grind (arith, nat_tests) in
    let c : (m - 1114114) % 3 ≡ j = omega arith in
    let d : (m - 1114114) / 3 ≡ k = omega arith in
    rw (a, b, s, c, d) refl

pub symbol_kind-opening_mark : (k : ℕ) → symbol_kind (opening_mark k) ≡ Opening k
symbol_kind-opening_mark k = kind_of_mark (opening_mark k) 0 k (omega arith) (omega arith)

pub symbol_kind-attribute_mark : (k : ℕ) → symbol_kind (attribute_mark k) ≡ Attribute k
symbol_kind-attribute_mark k = kind_of_mark (attribute_mark k) 1 k (omega arith) (omega arith)

pub symbol_kind-closing_mark : (k : ℕ) → symbol_kind (closing_mark k) ≡ Closing k
symbol_kind-closing_mark k = kind_of_mark (closing_mark k) 2 k (omega arith) (omega arith)
