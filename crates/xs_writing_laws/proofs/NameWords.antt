-- The texts of tokens that are names are Names of XML.
use Rattle.std.proofs.Common.{◌≡◌, ◌⊎◌, ℕ, List, [], ◌∷◌, ◌++◌, true, ◌==◌, not, refl, sym, subst, inl, inr}
use Rattle.std.specs.List.{list_all}
use Rattle.xs_class.specs.Classes.{Has}
use Rattle.xs_class.specs.Tables.{name_start_table, name_more_table, in_ranges, is_name_start}
use Rattle.xs_class.proofs.Adding.{has_append}
use Rattle.xs_lex.specs.declared.kind.Kind.{Kind}
use Rattle.xs_lex.specs.declared.kind.Kind.TheVariants.{Plain, Qual}
use Rattle.xs_lex.specs.Classes as L
use Rattle.xs_lex.specs.Classes.{is_plain}
use Rattle.xs_lex.specs.Spelling.{IsQual, Spells}
use Rattle.xs_sheet.specs.Pieces.{IsTextOf}
use Rattle.xs_xml_laws.specs.Tables as P
use Rattle.xs_xml_laws.specs.Piece.{is_name, all_of}
use Rattle.xs_class.proofs.TableLaws.{in_is, is_in}
use Rattle.xs_class.proofs.Truth.{and_true, both_true, or_left, or_right}

start_has : (c : ℕ) → L.is_plain_start c ≡ true → Has name_start_table c
unfolding L.is_plain_start is_name_start
start_has c is = in_is c name_start_table (and_true (in_ranges c name_start_table) (not (c == 58)) is).0

plain_has : (c : ℕ) → L.is_plain_char c ≡ true → Has (name_start_table ++ name_more_table) c
unfolding L.is_plain_char L.is_name_char
plain_has c is = in_is c (name_start_table ++ name_more_table) (and_true (in_ranges c (name_start_table ++ name_more_table)) (not (c == 58)) is).0

start_tested : (c : ℕ) → Has name_start_table c → is_name_start c ≡ true
unfolding is_name_start
start_tested c has = is_in c name_start_table has

char_tested : (c : ℕ) → Has name_start_table c ⊎ Has name_more_table c → P.is_name_char c ≡ true
unfolding P.is_name_char
char_tested c (inl has) = or_left (is_name_start c) (in_ranges c name_more_table) (start_tested c has)
char_tested c (inr has) = or_right (is_name_start c) (in_ranges c name_more_table) (is_in c name_more_table has)

start_is : (c : ℕ) → L.is_plain_start c ≡ true → is_name_start c ≡ true
start_is c is = start_tested c (start_has c is)

start_is_char : (c : ℕ) → L.is_plain_start c ≡ true → P.is_name_char c ≡ true
start_is_char c is = char_tested c (inl (start_has c is))

char_is : (c : ℕ) → L.is_plain_char c ≡ true → P.is_name_char c ≡ true
char_is c is = char_tested c ((has_append name_start_table name_more_table c).0 (plain_has c is))

colon_is : P.is_name_char 58 ≡ true
unfolding P.is_name_char is_name_start
colon_is = refl

plain_chars : (cs : List ℕ) → list_all L.is_plain_char cs ≡ true → all_of P.is_name_char cs ≡ true
plain_chars [] is = refl
plain_chars (c ∷ cs) is =
    let both = and_true (L.is_plain_char c) (list_all L.is_plain_char cs) is in both_true (P.is_name_char c) (all_of P.is_name_char cs) (char_is c both.0) (plain_chars cs both.1)

all_append : (xs ys : List ℕ) → all_of P.is_name_char xs ≡ true → all_of P.is_name_char ys ≡ true → all_of P.is_name_char (xs ++ ys) ≡ true
all_append [] ys p q = q
all_append (c ∷ xs) ys p q =
    let both = and_true (P.is_name_char c) (all_of P.is_name_char xs) p in both_true (P.is_name_char c) (all_of P.is_name_char (xs ++ ys)) both.0 (all_append xs ys both.1 q)

plain_all : (w : List ℕ) → is_plain w ≡ true → all_of P.is_name_char w ≡ true
plain_all [] is = refl
plain_all (c ∷ cs) is =
    let both = and_true (L.is_plain_start c) (list_all L.is_plain_char cs) is in both_true (P.is_name_char c) (all_of P.is_name_char cs) (start_is_char c both.0) (plain_chars cs both.1)

with_more : (w more : List ℕ) → is_plain w ≡ true → all_of P.is_name_char more ≡ true → is_name (w ++ more) ≡ true
with_more [] more is rest = absurd (cc)
with_more (c ∷ cs) more is rest =
    let both = and_true (L.is_plain_start c) (list_all L.is_plain_char cs) is in both_true (is_name_start c) (all_of P.is_name_char (cs ++ more)) (start_is c both.0) (all_append cs more (plain_chars cs both.1) rest)

plain_name : (w : List ℕ) → is_plain w ≡ true → is_name w ≡ true
plain_name [] is = absurd (cc)
plain_name (c ∷ cs) is =
    let both = and_true (L.is_plain_start c) (list_all L.is_plain_char cs) is in both_true (is_name_start c) (all_of P.is_name_char cs) (start_is c both.0) (plain_chars cs both.1)

qual_name : (w : List ℕ) → IsQual w → is_name w ≡ true
qual_name w q = subst (λ v. is_name v ≡ true) (sym q.is) (with_more q.prefix (58 ∷ q.local) q.plain_prefix (both_true (P.is_name_char 58) (all_of P.is_name_char q.local) colon_is (plain_all q.local q.plain_local)))

-- a plain or qualified name is a Name
abbrev pub IsNameText : Kind → List ℕ → Type 0
IsNameText Plain text = is_name text ≡ true
IsNameText Qual text = is_name text ≡ true
IsNameText kind text = Unit {0}

pub spelt_named : (k : Kind) (word text : List ℕ) → Spells k word → IsTextOf k word text → IsNameText k text
spelt_named Plain word text spells is = subst (λ w. is_name w ≡ true) (sym is) (plain_name word spells)
spelt_named Qual word text spells is = subst (λ w. is_name w ≡ true) (sym is) (qual_name word spells)
spelt_named kind word text spells is = tt
