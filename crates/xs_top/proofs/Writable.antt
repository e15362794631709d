-- The words of a well-formed sheet's languages can be written.
use Rattle.std.proofs.Common.{◌≡◌, ℕ, List, [], ◌∷◌, Bool, true, false, inl, inr, refl, sym, subst, ◌&&◌}
use Rattle.xs_class.specs.Tables.{char_table}
use Rattle.xs_xml_laws.specs.Tables.{is_char}
use Rattle.xs_xml_laws.specs.Piece.{all_of}
use Rattle.xs_sheet.specs.declared.item.Item.{Item}
use Rattle.xs_sheet.specs.declared.item.Item.TheVariants.{Fixed, Named, Skip}
use Rattle.xs_sheet.specs.declared.sheet.Sheet.{Sheet}
use Rattle.xs_gram.specs.Building.{EachOf}
use Rattle.xs_pair.specs.declared.ill.IllRule.TheVariants.{NoStart, Kind, AttrTwice, RootShape, NotChar}
use Rattle.xs_pair.specs.declared.mark.Mark.{Mark}
use Rattle.xs_pair.specs.declared.mark.Mark.TheVariants.{Opening, Attribute, AttributeEnd, Closing, Value, Content}
use Rattle.xs_pair.specs.Grammars.{Pair}
use Rattle.xs_pair.specs.Rules.{SomeOf}
use Rattle.xs_wf.specs.Rules.{IsWell}
use Rattle.xs_wf.specs.Units.{IsStrange, HasStrange, IsStrangeItem, IsStrangeMark}
use Rattle.xs_writing_laws.specs.Laws.{AreChars, HasChars, IsOfChars, HasCharStrings, IsWritable, CanBeWritten, WordsCanBeWritten}
use Rattle.xs_top.specs.Sheets.{IsPairOfBytes}
use Rattle.xs_class.proofs.TableLaws.{is_in}

-- what is not strange is a character, letter by letter
char_of : (c : ℕ) → (IsStrange c → ⊥) → is_char c ≡ true
unfolding is_char
char_of c sure = by (is_char c) refl
  where
    by : (t : Bool) → is_char c ≡ t → is_char c ≡ true
    by true e = e
    by false e = absurd (sure (λ has. let tested : is_char c ≡ true = is_in c char_table has in cc))

chars_of : (w : List ℕ) → (HasStrange w → ⊥) → AreChars w
chars_of [] sure = refl
chars_of (c ∷ cs) sure = subst (λ (t : Bool). (t && all_of is_char cs) ≡ true) (sym (char_of c (λ h. sure (inl h)))) (chars_of cs (λ h. sure (inr h)))

item_chars : (i : Item) → (IsStrangeItem i → ⊥) → HasChars i
item_chars (Fixed text) sure = chars_of text sure
item_chars (Named name slot) sure = cc
item_chars (Skip name) sure = cc

mark_chars : (m : Mark) → (IsStrangeMark m → ⊥) → IsOfChars m
mark_chars (Opening tag names) sure = cc
mark_chars (Attribute name) sure = cc
mark_chars AttributeEnd sure = cc
mark_chars (Closing tag) sure = cc
mark_chars (Value i) sure = item_chars i sure
mark_chars (Content i) sure = item_chars i sure

marks_chars : (ms : List Mark) → (SomeOf IsStrangeMark ms → ⊥) → EachOf IsOfChars ms
marks_chars [] sure = cc
marks_chars (m ∷ ms) sure = (mark_chars m (λ h. sure (inl h)), marks_chars ms (λ h. sure (inr h)))

strings_of : (s : Sheet) → IsWell s → HasCharStrings s
strings_of s well = record {
  left = λ k r at. marks_chars r.left (λ h. well NotChar r.line (inr (k, r, at, inl h, refl)));
  right = λ k r at. marks_chars r.right (λ h. well NotChar r.line (inr (k, r, at, inr h, refl)));
}

writable_of : (s : Sheet) → IsWell s → IsWritable s
writable_of s well = record {
  start = λ line fails. well NoStart line fails;
  kinds = λ line fails. well Kind line fails;
  attributes = λ line fails. well AttrTwice line fails;
  root = λ line fails. well RootShape line fails;
  strings = strings_of s well;
}

pub can_be_written : WordsCanBeWritten → (bytes : List ℕ) (p : Pair) → IsPairOfBytes bytes p → CanBeWritten p
can_be_written law bytes p is = law bytes is.sheet p is.spelled (writable_of is.sheet is.well) is.pair
