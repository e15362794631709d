-- What is written is characters, the first of which begins a tag.
use Rattle.std.proofs.Common.{◌≡◌, ℕ, ◌<◌, List, [], ◌∷◌, ◌++◌, length, Some, true, false, Bool, if◌then◌else◌, ◌==◌, codes, refl, sym, subst, arith}
use Rattle.std.specs.Prelude.{slice_get}
use lib.Utf8.{scalar, scalars}
use Rattle.std.proofs.lemmas.Bool.Decides.{nat_tests}
use Rattle.std.proofs.lemmas.List.Elements.{All-head, All-tail, All-get_or}
use Rattle.xs_class.specs.Marks.{opening_mark, closing_mark}
use Rattle.xs_xml_laws.specs.Tables.{is_name_char}
use Rattle.xs_xml_laws.specs.Piece.{is_name, all_of}
use Rattle.xs_xml_out.specs.declared.kind.SymbolKind.{SymbolKind}
use Rattle.xs_xml_out.specs.declared.kind.SymbolKind.TheVariants.{Char, ValueEnd, Strange, Opening, Attribute, Closing}
use Rattle.xs_xml_out.specs.declared.mode.Mode.{Mode}
use Rattle.xs_xml_out.specs.declared.mode.Mode.TheVariants.{Content, Tag, Value}
use Rattle.xs_xml_out.specs.Balanced.{attributes_word, IsBalanced}
use Rattle.xs_xml_out.specs.Written.{symbol_kind, name_at, content_char, value_char, put, next, written, xml_chars}
use Rattle.xs_xml_out.specs.Spelling.{IsKnown, IsKnownSymbol, AreKnown}
use Rattle.xs_xml_out.specs.Laws.{AreNames, BeginsWithTag}
use Rattle.xs_xml_out.proofs.Known.{balanced_known}
use Rattle.xs_xml_out.proofs.SymbolKinds.{symbol_kind-opening_mark}
use Rattle.xs_class.proofs.Truth.{and_true, both_true}
use Rattle.xs_class.specs.Tables.{is_name_start}

scalars-append : (xs ys : List ℕ) → scalars xs ≡ true → scalars ys ≡ true → scalars (xs ++ ys) ≡ true
scalars-append [] ys p q = q
scalars-append (x ∷ xs) ys p q = let both = and_true (scalar x) (scalars xs) p in both_true (scalar x) (scalars (xs ++ ys)) both.0 (scalars-append xs ys both.1 q)

name_char_scalar : (c : ℕ) → is_name_char c ≡ true → scalar c ≡ true
unfolding is_name_char is_name_start
name_char_scalar c is = grind (arith, nat_tests, is)

name_start_scalar : (c : ℕ) → is_name_start c ≡ true → scalar c ≡ true
unfolding is_name_start
name_start_scalar c is = grind (arith, nat_tests, is)

all_scalar : (cs : List ℕ) → all_of is_name_char cs ≡ true → scalars cs ≡ true
all_scalar [] all = refl
all_scalar (c ∷ cs) all = let both = and_true (is_name_char c) (all_of is_name_char cs) all in both_true (scalar c) (scalars cs) (name_char_scalar c both.0) (all_scalar cs both.1)

name_scalars : (n : List ℕ) → is_name n ≡ true → scalars n ≡ true
name_scalars [] is = refl
name_scalars (c ∷ cs) is = let both = and_true (is_name_start c) (all_of is_name_char cs) is in both_true (scalar c) (scalars cs) (name_start_scalar c both.0) (all_scalar cs both.1)

content_scalars : (c : ℕ) → scalar c ≡ true → scalars (content_char c) ≡ true
content_scalars c is = by (c == 38) (c == 60) (c == 62) (c == 13)
  where
    by : (t1 t2 t3 t4 : Bool) → scalars (if t1 then codes "&amp;" else (if t2 then codes "&lt;" else (if t3 then codes "&gt;" else (if t4 then codes "&#xD;" else c ∷ [])))) ≡ true
    by true t2 t3 t4 = refl
    by false true t3 t4 = refl
    by false false true t4 = refl
    by false false false true = refl
    by false false false false = both_true (scalar c) true is refl

value_scalars : (c : ℕ) → scalar c ≡ true → scalars (value_char c) ≡ true
value_scalars c is = by (c == 34) (c == 9) (c == 10)
  where
    by : (t1 t2 t3 : Bool) → scalars (if t1 then codes "&quot;" else (if t2 then codes "&#x9;" else (if t3 then codes "&#xA;" else content_char c))) ≡ true
    by true t2 t3 = refl
    by false true t3 = refl
    by false false true = refl
    by false false false = content_scalars c is

module _ (names : List (List ℕ)) (are_names : AreNames names) where
  name_at_scalars : (k : ℕ) → k < length names → scalars (name_at names k) ≡ true
  name_at_scalars k below = name_scalars (name_at names k) (All-get_or (λ name. is_name name ≡ true) names k [] below are_names)

  around : (front back : List ℕ) (k : ℕ) → scalars front ≡ true → scalars back ≡ true → k < length names → scalars (front ++ name_at names k ++ back) ≡ true
  around front back k f b below = scalars-append (front ++ name_at names k) back (scalars-append front (name_at names k) f (name_at_scalars k below)) b

  put_scalars : (mode : Mode) (kind : SymbolKind) → IsKnown names kind → scalars (put names mode kind) ≡ true
  put_scalars Content (Char c) known = content_scalars c known
  put_scalars Tag (Char c) known = content_scalars c known
  put_scalars Value (Char c) known = value_scalars c known
  put_scalars Content (Opening k) known = name_at_scalars k known
  put_scalars Tag (Opening k) known = name_at_scalars k known
  put_scalars Value (Opening k) known = refl
  put_scalars Content (Attribute k) known = refl
  put_scalars Tag (Attribute k) known = around (codes " ") (codes "=\"") k refl refl known
  put_scalars Value (Attribute k) known = refl
  put_scalars Content (Closing k) known = around (codes "</") (codes ">") k refl refl known
  put_scalars Tag (Closing k) known = refl
  put_scalars Value (Closing k) known = refl
  put_scalars Content ValueEnd known = refl
  put_scalars Tag ValueEnd known = refl
  put_scalars Value ValueEnd known = refl
  put_scalars Content Strange known = refl
  put_scalars Tag Strange known = refl
  put_scalars Value Strange known = refl

  written_scalars : (mode : Mode) (word : List ℕ) → AreKnown names word → scalars (written names mode word) ≡ true
  written_scalars mode [] known = refl
  written_scalars mode (symbol ∷ word) known = scalars-append (put names mode (symbol_kind symbol)) (written names (next mode (symbol_kind symbol)) word) (put_scalars mode (symbol_kind symbol) (All-head (IsKnownSymbol names) symbol word known)) (written_scalars (next mode (symbol_kind symbol)) word (All-tail (IsKnownSymbol names) symbol word known))

  pub xml_scalars : (word : List ℕ) → IsBalanced names word → scalars (xml_chars names word) ≡ true
  xml_scalars word balanced = scalars-append (written names Content word) (codes "\n") (written_scalars Content word (balanced_known names word balanced)) refl

opening_first : (names : List (List ℕ)) (k : ℕ) (rest : List ℕ) → slice_get (xml_chars names (opening_mark k ∷ rest)) 0 ≡ Some 60
opening_first names k rest = rw (symbol_kind-opening_mark k) refl

pub begins_with_tag : BeginsWithTag
begins_with_tag names word balanced = subst (λ (z : List ℕ). slice_get (xml_chars names z) 0 ≡ Some 60) (sym balanced.is) (opening_first names balanced.name (attributes_word balanced.attributes (balanced.content ++ closing_mark balanced.name ∷ [])))
