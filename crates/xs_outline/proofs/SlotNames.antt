-- The slots of a sheet that was read have plain names, so there is no space and no LF in them.
use Rattle.std.proofs.Common.{◌≡◌, ℕ, List, [], ◌∷◌, map, get_or, true, false, refl, sym, ◌∙◌, subst}
use Rattle.std.specs.List.{list_all}
use Rattle.xs_class.specs.Tables.{is_name_start}
use Rattle.xs_class.proofs.Truth.{and_true, false_true}
use Rattle.xs_lex.specs.declared.kind.Kind.{Kind}
use Rattle.xs_lex.specs.declared.kind.Kind.TheVariants.{Plain}
use Rattle.xs_lex.specs.Classes.{is_name_char, is_plain_start, is_plain_char, is_plain}
use Rattle.xs_lex.specs.Spelling.{Spells}
use Rattle.xs_gram.specs.Building.{EachOf}
use Rattle.xs_sheet.specs.declared.item.Item.{Item}
use Rattle.xs_sheet.specs.declared.item.Item.TheVariants.{Named}
use Rattle.xs_sheet.specs.declared.sheet.Sheet.{Sheet}
use Rattle.xs_sheet.specs.Pieces.{IsTextOf}
use Rattle.xs_sheet.specs.Grammar.{IsSheetOf}
use Rattle.xs_pair.specs.declared.mark.Mark.{Mark}
use Rattle.xs_pair.specs.declared.mark.Mark.TheVariants.{Value, Content}
use Rattle.xs_pair.specs.declared.production.Rule.{Rule}
use Rattle.xs_pair.specs.Grammars.{Pair, IsPairOf}
use Rattle.xs_pair.specs.Listing.{rules_of}
use Rattle.xs_pair.specs.Marks.{item_slots, mark_slots, slots_of, slot_names}
use Rattle.xs_pair.proofs.Lists.{each_flat_map, each_map, each_at}
use Rattle.xs_pair.proofs.Said.{IsSaidOfItem, IsSaidOfMark, IsSaidOfRule, said_of_spelt}
use Rattle.xs_outline.specs.Lines.{Lacks}
use Rattle.xs_outline.specs.Shapes.{slot_name}

-- a plain name is one of a unit or a slot
abbrev IsPlainText : Kind → List ℕ → Type 0
IsPlainText Plain text = is_plain text ≡ true
IsPlainText kind text = Unit {0}

spelt_plain : (k : Kind) (word text : List ℕ) → Spells k word → IsTextOf k word text → IsPlainText k text
spelt_plain Plain word text spells is = subst (λ (w : List ℕ). is_plain w ≡ true) (sym is) spells
spelt_plain kind word text spells is = tt

-- a name without a space and without LF
abbrev pub IsOneWord : List ℕ → Type 0
IsOneWord name = Lacks 32 name × Lacks 10 name

chars_lack : (c : ℕ) → is_plain_char c ≡ false → (w : List ℕ) → list_all is_plain_char w ≡ true → Lacks c w
chars_lack c none [] is = tt
chars_lack c none (x ∷ w) is =
    let both = and_true (is_plain_char x) (list_all is_plain_char w) is in
    (λ e. false_true (sym none ∙ subst (λ (z : ℕ). is_plain_char z ≡ true) e both.0), chars_lack c none w both.1)

plain_lacks : (c : ℕ) → is_plain_start c ≡ false → is_plain_char c ≡ false → (w : List ℕ) → is_plain w ≡ true → Lacks c w
plain_lacks c first none [] is = tt
plain_lacks c first none (x ∷ w) is =
    let both = and_true (is_plain_start x) (list_all is_plain_char w) is in
    (λ e. false_true (sym first ∙ subst (λ (z : ℕ). is_plain_start z ≡ true) e both.0), chars_lack c none w both.1)

no_plain : ((is_plain_start 32 ≡ false) × (is_plain_char 32 ≡ false)) × ((is_plain_start 10 ≡ false) × (is_plain_char 10 ≡ false))
unfolding is_plain_start is_plain_char is_name_char is_name_start
no_plain = ((refl, refl), (refl, refl))

plain_word : (w : List ℕ) → is_plain w ≡ true → IsOneWord w
plain_word w is = (plain_lacks 32 no_plain.0.0 no_plain.0.1 w is, plain_lacks 10 no_plain.1.0 no_plain.1.1 w is)

-- the slots of an item, of a mark and of the left sides of productions
item_words : (i : Item) → IsSaidOfItem IsPlainText i → EachOf (λ (s : List ℕ × List ℕ). IsOneWord s.0) (item_slots i)
item_words (Named name slot) said = (plain_word slot said.1, tt)
item_words i said = tt

mark_words : (m : Mark) → IsSaidOfMark IsPlainText m → EachOf (λ (s : List ℕ × List ℕ). IsOneWord s.0) (mark_slots m)
mark_words (Value i) said = item_words i said
mark_words (Content i) said = item_words i said
mark_words m said = tt

marks_words : (ms : List Mark) → EachOf (IsSaidOfMark IsPlainText) ms → EachOf (λ (m : Mark). EachOf (λ (s : List ℕ × List ℕ). IsOneWord s.0) (mark_slots m)) ms
marks_words [] said = tt
marks_words (m ∷ ms) said = (mark_words m said.0, marks_words ms said.1)

rules_words : (rs : List Rule) → EachOf (IsSaidOfRule IsPlainText) rs → EachOf (λ (names : List (List ℕ)). EachOf IsOneWord names) (map (λ (r : Rule). slot_names r.left) rs)
rules_words [] said = tt
rules_words (r ∷ rs) said =
    let slots = each_flat_map (λ (s : List ℕ × List ℕ). IsOneWord s.0) mark_slots r.left (marks_words r.left said.0.0) in
    (each_map IsOneWord (λ (s : List ℕ × List ℕ). s.0) (slots_of r.left) slots, rules_words rs said.1)

-- no name of a slot has a space or LF
pub slots_lack : (bytes : List ℕ) (s : Sheet) (p : Pair) → IsSheetOf bytes s → IsPairOf s p → (q k : ℕ) → IsOneWord (slot_name p q k)
slots_lack bytes s p read pair q k =
    let said = said_of_spelt IsPlainText spelt_plain (λ text. tt) (λ text. tt) bytes s read in
    let all = subst (EachOf (λ (names : List (List ℕ)). EachOf IsOneWord names)) (sym pair.slots) (rules_words (rules_of s.units) said) in
    each_at IsOneWord (get_or p.slots q []) k [] (tt, tt) (each_at (λ (names : List (List ℕ)). EachOf IsOneWord names) p.slots q [] tt all)
