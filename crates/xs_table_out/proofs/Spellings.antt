-- What is written for the texts of steps, one after another.
use Rattle.std.proofs.Common.{◌≡◌, ℕ, zero, suc, ◌-◌, ◌<◌, ◌≤◌, List, [], ◌∷◌, ◌++◌, length, get_or, take, drop, Option, Some, None, encode_utf8_all, string_bytes, inl, inr, refl, sym, ◌∙◌, ap, subst, arith, length-append, append_assoc}
use Rattle.std.specs.Prelude.{slice_get, slice_range}
use Rattle.std.specs.Option.{option_map}
use Rattle.std.proofs.lemmas.List.{take_all, take-append-le, drop_at}
use Rattle.std.proofs.lemmas.Option.{slice_get-get_or}
use Rattle.std.proofs.lemmas.Str.{encodes-append}
use Rattle.xs_class.proofs.Lists.{get_push}
use Rattle.xs_xml_out.specs.declared.mode.Mode.{Mode}
use Rattle.xs_xml_out.specs.declared.mode.Mode.TheVariants.{Content, Tag, Value}
use Rattle.xs_xml_out.specs.Written.{written, rest_bytes, IsAppended}
use Rattle.xs_xml_out.proofs.Appended.{appended_rest}
use Rattle.xs_table_out.specs.declared.steps.Step.{Step}
use Rattle.xs_table_out.specs.declared.steps.Steps.{Steps}
use Rattle.xs_table_out.specs.declared.text.Encoding.{Encoding}
use Rattle.xs_table_out.specs.declared.xml.Cell.{Cell}
use Rattle.xs_table_out.specs.declared.xml.Spelt.{Spelt}
use Rattle.xs_table_out.specs.declared.xml.Spellings.{Spellings}
use Rattle.xs_table_out.specs.Steps.{text_at, text_of}
use Rattle.xs_table_out.specs.Encoded.{AreEncodedSoFar, IsEncoded}
use Rattle.xs_table_out.specs.Spelt.{cell_in, AreSpelt, AreSpeltSoFar, GoesOn, IsCell, IsSpelt}

-- a stretch stays where a list goes on
range_left : (xs more : List ℕ) (a b : ℕ) → b ≤ length xs → slice_range (xs ++ more) a b ≡ slice_range xs a b
range_left [] more a b le =
    let e : b - a ≡ 0 = omega (arith, le) in
    ap (λ n. take n (drop a more)) e ∙ sym (ap (λ n. take n (drop {A = ℕ} a [])) e)
range_left (x ∷ xs) more zero b le = take-append-le (b - 0) (x ∷ xs) more (omega (arith, le))
range_left (x ∷ xs) more (suc a) b le =
    let e : b - suc a ≡ (b - 1) - a = omega arith in
    ap (λ n. take n (drop a (xs ++ more))) e ∙ range_left xs more a (b - 1) (omega (arith, le)) ∙ sym (ap (λ n. take n (drop a xs)) e)

-- the last stretch
pub range_last : (xs ys new : List ℕ) (a b : ℕ) → new ≡ xs ++ ys → a ≡ length xs → b ≡ length new → slice_range new a b ≡ ys
range_last xs ys new a b new_is a_is b_is =
    let long = length-append xs ys in
    let same = ap (λ (l : List ℕ). length l) new_is in
    ap (λ (l : List ℕ). take (b - a) (drop a l)) new_is ∙ ap (λ (l : List ℕ). take (b - a) l) (drop_at xs ys a (sym a_is)) ∙ take_all (b - a) ys (omega (arith, a_is, b_is, long, same))

-- the stretch of a step that is read is its text
pub text_read : (s : Steps) (i : ℕ) (d : Step) (all : List Step) (text word : List ℕ) → all ≡ s.all.items → text ≡ s.text.items → i < length all → word ≡ slice_range text (get_or all i d).begin (get_or all i d).end → word ≡ text_at s i
text_read s i d all text word all_is text_is lt is =
    is ∙ ap (λ (l : List ℕ). slice_range l (get_or all i d).begin (get_or all i d).end) text_is
    ∙ sym (ap (text_of s.text.items) (ap (λ (l : List Step). slice_get l i) (sym all_is) ∙ slice_get-get_or all i d lt))

-- XML
pub cell_stays : (names : List (List ℕ)) (mode : Mode) (word bytes new : List ℕ) (cell : Cell) → GoesOn bytes new → IsCell names mode word bytes cell → IsCell names mode word new cell
cell_stays names mode word bytes new cell (more, on) is = record {
  there = let long = length-append bytes more in let same = ap (λ (l : List ℕ). length l) on in omega (arith, is.there, long, same);
  is = ap (λ (l : List ℕ). slice_range l cell.begin cell.end) on ∙ range_left bytes more cell.begin cell.end is.there ∙ is.is;
  mode_is = is.mode_is;
}

pub goes_both : (xs ys zs : List ℕ) → GoesOn xs ys → GoesOn ys zs → GoesOn xs zs
goes_both xs ys zs (a, is_a) (b, is_b) = (a ++ b, is_b ∙ ap (λ (l : List ℕ). l ++ b) is_a ∙ append_assoc xs a b)

-- what is appended is a cell, and what was there stays
pub cell_made : (names : List (List ℕ)) (mode : Mode) (word old new : List ℕ) (cell : Cell) → cell.begin ≡ length old → cell.end ≡ length new → IsAppended names mode word old new cell.after → IsCell names mode word new cell
cell_made names mode word old new cell begins ends is = record {
  there = omega (arith, ends);
  is = range_last old (encode_utf8_all (written names mode word)) new cell.begin cell.end is.bytes begins ends;
  mode_is = is.mode_is;
}

pub goes_on : (names : List (List ℕ)) (mode after : Mode) (word old new : List ℕ) → IsAppended names mode word old new after → GoesOn old new
goes_on names mode after word old new is = (encode_utf8_all (written names mode word), is.bytes)

-- the cells of a word that was appended in each mode
pub spelt_made : (names : List (List ℕ)) (word one two three : List ℕ) (content tag value : Cell) → GoesOn one two → GoesOn two three → IsCell names Content word one content → IsCell names Tag word two tag → IsCell names Value word three value → IsSpelt names word three record { content = content; tag = tag; value = value }
spelt_made names word one two three content tag value on more is_content is_tag is_value Content = cell_stays names Content word one three content (goes_both one two three on more) is_content
spelt_made names word one two three content tag value on more is_content is_tag is_value Tag = cell_stays names Tag word two three tag more is_tag
spelt_made names word one two three content tag value on more is_content is_tag is_value Value = is_value

pub spelt_push : (names : List (List ℕ)) (steps : Steps) (word bytes new : List ℕ) (all next : List Spelt) (spelt : Spelt) → AreSpeltSoFar names steps bytes all → GoesOn bytes new → IsSpelt names word new spelt → word ≡ text_at steps (length all) → next ≡ all ++ spelt ∷ [] → AreSpeltSoFar names steps new next
spelt_push names steps word bytes new all next spelt are on is word_is next_is number found there =
    let last : IsSpelt names (text_at steps (length all)) new spelt = subst (λ (w : List ℕ). IsSpelt names w new spelt) word_is is in
    elim (get_push all spelt found number (ap (λ (l : List Spelt). slice_get l number) (sym next_is) ∙ there)) [
      | inl old ↦ λ mode. cell_stays names mode (text_at steps number) bytes new (cell_in found mode) on (are number found old mode)
      | inr latest ↦ subst (λ (n : ℕ). IsSpelt names (text_at steps n) new found) (sym latest.0) (subst (λ (s : Spelt). IsSpelt names (text_at steps (length all)) new s) latest.1 last)
    ]

-- the cell that is found for a step's text and a mode
found_spelt : (o : Option Spelt) (mode : Mode) (cell : Cell) → Some cell ≡ option_map (λ s. cell_in s mode) o → (spelt : Spelt) × (o ≡ Some spelt) × (cell_in spelt mode ≡ cell)
found_spelt None mode cell is = cc
found_spelt (Some spelt) mode cell is = (spelt, refl, cc)

pub found_cell : (steps : Steps) (s : Spellings) (number : ℕ) (mode : Mode) (cell : Cell) → AreSpelt steps s → Some cell ≡ option_map (λ x. cell_in x mode) (slice_get s.all.items number) → IsCell s.tags mode (text_at steps number) (string_bytes s.text) cell
found_cell steps s number mode cell are found =
    let own = found_spelt (slice_get s.all.items number) mode cell found in
    subst (λ (x : Cell). IsCell s.tags mode (text_at steps number) (string_bytes s.text) x) own.2 (are number own.0 own.1 mode)

-- a cell is written next
pub cell_writes : (names : List (List ℕ)) (mode : Mode) (word bytes text old new rest : List ℕ) (cell : Cell) → IsCell names mode word bytes cell → text ≡ slice_range bytes cell.begin cell.end → new ≡ old ++ text → new ++ rest_bytes names cell.after rest ≡ old ++ rest_bytes names mode (word ++ rest)
cell_writes names mode word bytes text old new rest cell is text_is new_is =
    appended_rest names mode cell.after word old new rest record { bytes = new_is ∙ ap (λ (l : List ℕ). old ++ l) (text_is ∙ is.is); mode_is = is.mode_is }

-- text
encoding_stays : (word bytes more new : List ℕ) (encoding : Encoding) → new ≡ bytes ++ more → IsEncoded word bytes encoding → IsEncoded word new encoding
encoding_stays word bytes more new encoding on is = record {
  there = let long = length-append bytes more in let same = ap (λ (l : List ℕ). length l) on in omega (arith, is.there, long, same);
  is = ap (λ (l : List ℕ). slice_range l encoding.begin encoding.end) on ∙ range_left bytes more encoding.begin encoding.end is.there ∙ is.is;
}

pub encoded_push : (steps : Steps) (word bytes new : List ℕ) (all next : List Encoding) (encoding : Encoding) → AreEncodedSoFar steps bytes all → new ≡ bytes ++ encode_utf8_all word → encoding.begin ≡ length bytes → encoding.end ≡ length new → word ≡ text_at steps (length all) → next ≡ all ++ encoding ∷ [] → AreEncodedSoFar steps new next
encoded_push steps word bytes new all next encoding are new_is begins ends word_is next_is number found there =
    let own : IsEncoded word new encoding = record { there = omega (arith, ends); is = range_last bytes (encode_utf8_all word) new encoding.begin encoding.end new_is begins ends } in
    let last : IsEncoded (text_at steps (length all)) new encoding = subst (λ (w : List ℕ). IsEncoded w new encoding) word_is own in
    elim (get_push all encoding found number (ap (λ (l : List Encoding). slice_get l number) (sym next_is) ∙ there)) [
      | inl old ↦ encoding_stays (text_at steps number) bytes (encode_utf8_all word) new found new_is (are number found old)
      | inr latest ↦ subst (λ (n : ℕ). IsEncoded (text_at steps n) new found) (sym latest.0) (subst (λ (e : Encoding). IsEncoded (text_at steps (length all)) new e) latest.1 last)
    ]

-- the UTF-8 of a word is written next
pub word_writes : (word old new rest : List ℕ) → new ≡ old ++ encode_utf8_all word → new ++ encode_utf8_all rest ≡ old ++ encode_utf8_all (word ++ rest)
word_writes word old new rest is =
    ap (λ (l : List ℕ). l ++ encode_utf8_all rest) is ∙ append_assoc old (encode_utf8_all word) (encode_utf8_all rest) ∙ ap (λ (l : List ℕ). old ++ l) (sym (encodes-append word rest))
