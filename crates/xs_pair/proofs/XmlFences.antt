-- The opening and the closing of each name are proper fences of an XML side.
use Rattle.std.proofs.Common.{◌≡◌, ◌≢◌, ◌∙◌, ◌<◌, ◌≤◌, ◌+◌, ◌*◌, ap, sym, refl, subst, ℕ, zero, suc, List, [], ◌∷◌, ◌++◌, append_assoc, append-nil, length, Some, None, Bool, true, false, ◌==◌, if◌then◌else◌, map, inl, inr, ◌⊎◌, eqb-true, arith}
use Rattle.std.specs.declared.option.Option.{Option}
use Rattle.std.proofs.lemmas.Bool.{cases_lt}
use Rattle.std.proofs.lemmas.List.Concat.{flat_map-append}
use Rattle.xs_class.specs.Marks.{attr_end, opening_mark, attribute_mark, closing_mark}
use Rattle.xs_class.specs.Tables.{IsChar}
use Rattle.xs_class.specs.Ordered.{place_of, AreNamesOf}
use Rattle.xs_class.specs.declared.side.Side.TheVariants.{Xml}
use Rattle.xs_class.proofs.Truth.{eq_self, neither}
use Rattle.xs_regex.specs.declared.regex.Regex.{Regex}
use Rattle.xs_regex.specs.declared.regex.Regex.TheVariants.{Empty, Set, Then', Or', Star', Times'}
use Rattle.xs_regex.specs.Meaning.{Means}
use Rattle.xs_regex.specs.Pattern.{Tree, nothing, class, both, either, any, times}
use Rattle.xs_sheet.specs.declared.item.Item.{Item}
use Rattle.xs_sheet.specs.declared.item.Item.TheVariants as I
use Rattle.xs_sheet.specs.declared.x_item.Attr.{Attr}
use Rattle.xs_sheet.specs.declared.unit.Unit.{Unit}
use Rattle.xs_sheet.specs.declared.unit.Unit.TheVariants as V
use Rattle.xs_gram.specs.declared.parts.GItem.{GItem}
use Rattle.xs_gram.specs.declared.parts.GItem.TheVariants.{Fixed}
use Rattle.xs_gram.specs.declared.parts.RulePart.{RulePart}
use Rattle.xs_gram.specs.declared.parts.SkipPart.{SkipPart}
use Rattle.xs_gram.specs.declared.parts.GramParts.{GramParts}
use Rattle.xs_gram.specs.Fences.{fence_symbols, is_left, is_right, is_fence, spread_items, IsLevel, AvoidsFences}
use Rattle.xs_gram.specs.Laws.{Every, IsDistinct}
use Rattle.xs_gram.specs.Building.{EachOf, HasProperFences}
use Rattle.xs_pair.specs.declared.mark.Mark.{Mark}
use Rattle.xs_pair.specs.declared.mark.Mark.TheVariants.{AttributeEnd, Closing, Value, Content}
use Rattle.xs_pair.specs.declared.production.Rule.{Rule}
use Rattle.xs_pair.specs.Balance.{right_of, AreApart}
use Rattle.xs_pair.specs.Fences.{IsPair, IsBalanced, balanced_none, balanced_then, balanced_group, mark_pairs}
use Rattle.xs_pair.specs.Grammars.{Numbering, numbering, named_item, flat_item, flat_mark, flat_marks, rule_parts, AreTermsOf, AreSkipsOf}
use Rattle.xs_pair.specs.Listing.{rules_of, names_in}
use Rattle.xs_pair.specs.Marks.{all_marks, attr_marks, attrs_marks, by_name, opening_marks, slot_names}
use Rattle.xs_pair.specs.Rules.{IsAmong}
use Rattle.xs_pair.specs.Units.{number_of}
use Rattle.xs_pair.proofs.Apart.{every_weaker}
use Rattle.xs_pair.proofs.FlatElements.{flat_element}
use Rattle.xs_pair.proofs.Known.{AreKnown, known_names}
use Rattle.xs_pair.proofs.Levels.{IsBare, items_word, words_append, balanced_level}
use Rattle.xs_pair.proofs.Lists.{each_front, each_back}
use Rattle.xs_pair.proofs.Nested as N
use Rattle.xs_pair.proofs.Nested.{IsNested, all_nested}
use Rattle.xs_pair.proofs.Numbering.{number_bound}
use Rattle.xs_pair.proofs.Said.{IsSaidOfItem, IsSaidOfMark, IsSaidOfRule}
use Rattle.xs_pair.proofs.Strings.{AreLow, IsLowText}

-- the symbols of the pairs of the k-th name and the later ones
symbols_above : (k count bound : ℕ) → bound ≤ 1114114 + 3 * k → Every (λ s. bound ≤ s) (fence_symbols (mark_pairs k count))
symbols_above k zero bound le = tt
symbols_above k (suc count) bound le = (le, (omega arith, symbols_above (k + 1) count bound (omega arith)))

above : (m n : ℕ) → suc n ≤ m → m ≡ n → ⊥
above m n le e = omega arith

pub marks_once : (k count : ℕ) → IsDistinct (fence_symbols (mark_pairs k count))
marks_once k zero = tt
marks_once k (suc count) =
    let later = fence_symbols (mark_pairs (k + 1) count) in (
      (above (closing_mark k) (opening_mark k) (omega arith), every_weaker (λ s. suc (opening_mark k) ≤ s) (λ m. m ≢ opening_mark k) later (λ m le. above m (opening_mark k) le) (symbols_above (k + 1) count (suc (opening_mark k)) (omega arith))),
      (every_weaker (λ s. suc (closing_mark k) ≤ s) (λ m. m ≢ closing_mark k) later (λ m le. above m (closing_mark k) le) (symbols_above (k + 1) count (suc (closing_mark k)) (omega arith)), marks_once (k + 1) count),
    )

-- no test of two different numbers
differ : (a b : ℕ) → (a ≡ b → ⊥) → (a == b) ≡ false
differ a b other = by (a == b) refl
  where
    by : (t : Bool) → (a == b) ≡ t → t ≡ false
    by true is = absurd (other (eqb-true a b is))
    by false is = refl

-- a symbol that is no opening is no left one, one that is no closing is no right one
not_left : (k count s : ℕ) → ((j : ℕ) → opening_mark j ≡ s → ⊥) → is_left (mark_pairs k count) s ≡ false
not_left k zero s none = refl
not_left k (suc count) s none = neither (opening_mark k == s) (is_left (mark_pairs (k + 1) count) s) (differ (opening_mark k) s (none k)) (not_left (k + 1) count s none)

not_right : (k count s : ℕ) → ((j : ℕ) → closing_mark j ≡ s → ⊥) → is_right (mark_pairs k count) s ≡ false
not_right k zero s none = refl
not_right k (suc count) s none = neither (closing_mark k == s) (is_right (mark_pairs (k + 1) count) s) (differ (closing_mark k) s (none k)) (not_right (k + 1) count s none)

not_fence : (k count s : ℕ) → ((j : ℕ) → opening_mark j ≡ s → ⊥) → ((j : ℕ) → closing_mark j ≡ s → ⊥) → is_fence (mark_pairs k count) s ≡ false
not_fence k count s left right = neither (is_left (mark_pairs k count) s) (is_right (mark_pairs k count) s) (not_left k count s left) (not_right k count s right)

low_fence : (k count s : ℕ) → s < 1114114 → is_fence (mark_pairs k count) s ≡ false
low_fence k count s low = not_fence k count s (λ j e. omega arith) (λ j e. omega arith)

attribute_fence : (k count m : ℕ) → is_fence (mark_pairs k count) (attribute_mark m) ≡ false
attribute_fence k count m = not_fence k count (attribute_mark m) (λ j e. omega arith) (λ j e. omega arith)

-- the pairs are apart, and that of a name is one of them
none_right : (k count s : ℕ) → ((j : ℕ) → opening_mark j ≡ s → ⊥) → right_of (mark_pairs k count) s ≡ None
none_right k zero s none = refl
none_right k (suc count) s none = ap (λ (t : Bool). if t then Some (closing_mark k) else right_of (mark_pairs (k + 1) count) s) (differ (opening_mark k) s (none k)) ∙ none_right (k + 1) count s none

pair_is : (k count l r : ℕ) → IsPair (mark_pairs k count) l r → (j : ℕ) × (k ≤ j) × (opening_mark j ≡ l) × (closing_mark j ≡ r)
pair_is k zero l r p = absurd p
pair_is k (suc count) l r (inl is) = (k, omega arith, is.0, is.1)
pair_is k (suc count) l r (inr p) = let later = pair_is (k + 1) count l r p in (later.0, omega (arith, later.1), later.2, later.3)

found_right : (k count l r : ℕ) → IsPair (mark_pairs k count) l r → right_of (mark_pairs k count) l ≡ Some r
found_right k zero l r p = absurd p
found_right k (suc count) l r (inl is) = ap (λ (t : Bool). if t then Some (closing_mark k) else right_of (mark_pairs (k + 1) count) l) (ap (λ (z : ℕ). z == l) is.0 ∙ eq_self l) ∙ ap Some is.1
found_right k (suc count) l r (inr p) =
    let later = pair_is (k + 1) count l r p in
    let le = later.1 in
    let at = later.2 in
    ap (λ (t : Bool). if t then Some (closing_mark k) else right_of (mark_pairs (k + 1) count) l) (differ (opening_mark k) l (λ e. omega arith)) ∙ found_right (k + 1) count l r p

marks_apart : (k count : ℕ) → AreApart (mark_pairs k count)
marks_apart k count = record {
  right = λ l r p. found_right k count l r p;
  apart = λ l r p. (let j = pair_is k count l r p in subst (λ (z : ℕ). right_of (mark_pairs k count) z ≡ None) j.3 (none_right k count (closing_mark j.0) (λ i e. omega arith)));
}

pair_there : (k count m : ℕ) → k ≤ m → m < k + count → IsPair (mark_pairs k count) (opening_mark m) (closing_mark m)
pair_there k zero m le lt = absurd (omega arith)
pair_there k (suc count) m le lt = by (cases_lt k m) (λ le. pair_there (k + 1) count m le (omega arith))
  where
    by : (k < m) ⊎ (m ≤ k) → (k + 1 ≤ m → IsPair (mark_pairs (k + 1) count) (opening_mark m) (closing_mark m)) → ((opening_mark k ≡ opening_mark m) × (closing_mark k ≡ closing_mark m)) ⊎ IsPair (mark_pairs (k + 1) count) (opening_mark m) (closing_mark m)
    by (inl below) later = inr (later (omega arith))
    by (inr at) later = let e : k ≡ m = omega arith in inl (ap opening_mark e, ap closing_mark e)

-- no class of a pattern has a mark
char_low : (s : ℕ) → IsChar s → s < 1114112
char_low s (inl in_) = omega (arith, in_.0, in_.1)
char_low s (inr (inl in_)) = omega (arith, in_.0, in_.1)
char_low s (inr (inr (inl in_))) = omega (arith, in_.0, in_.1)
char_low s (inr (inr (inr (inl in_)))) = omega (arith, in_.0, in_.1)
char_low s (inr (inr (inr (inr (inl in_))))) = omega (arith, in_.0, in_.1)
char_low s (inr (inr (inr (inr (inr (inl in_)))))) = omega (arith, in_.0, in_.1)
char_low s (inr (inr (inr (inr (inr (inr none)))))) = absurd none

means_avoids : (count : ℕ) (t : Tree) (r : Regex) → Means t r → AvoidsFences (mark_pairs 0 count) r
means_avoids count nothing Empty means = tt
means_avoids count (class sort) (Set ranges) means = λ s has. (let low = char_low s ((means.1 s).0 has).0 in low_fence 0 count s (omega arith))
means_avoids count (both t u) (Then' p a q b) means = (means_avoids count t a means.0, means_avoids count u b means.1)
means_avoids count (either t u) (Or' p a q b) means = (means_avoids count t a means.0, means_avoids count u b means.1)
means_avoids count (any t) (Star' p a) means = means_avoids count t a means
means_avoids count (times t least most) (Times' p a l n) means = means_avoids count t a means.0
means_avoids count t r means = absurd means

terms_avoid : (count : ℕ) (us : List Unit) (rs : List Regex) → AreTermsOf us rs → EachOf (AvoidsFences (mark_pairs 0 count)) rs
terms_avoid count [] [] are = tt
terms_avoid count [] (r ∷ rs) are = absurd are
terms_avoid count (V.Terminal name pattern regex line ∷ us) [] are = absurd are
terms_avoid count (V.Terminal name pattern regex line ∷ us) (r ∷ rs) are = (means_avoids count are.0.0 r are.0.2, terms_avoid count us rs are.1)
terms_avoid count (V.Ignorable name pattern regex normal line ∷ us) rs are = terms_avoid count us rs are
terms_avoid count (V.Production name left right line ∷ us) rs are = terms_avoid count us rs are
terms_avoid count (V.Fence left right line ∷ us) rs are = terms_avoid count us rs are

skips_avoid : (count : ℕ) (us : List Unit) (ks : List SkipPart) → AreSkipsOf us ks → EachOf (λ (k : SkipPart). AvoidsFences (mark_pairs 0 count) k.regex) ks
skips_avoid count [] [] are = tt
skips_avoid count [] (k ∷ ks) are = absurd are
skips_avoid count (V.Terminal name pattern regex line ∷ us) ks are = skips_avoid count us ks are
skips_avoid count (V.Ignorable name pattern regex normal line ∷ us) [] are = absurd are
skips_avoid count (V.Ignorable name pattern regex normal line ∷ us) (k ∷ ks) are = (means_avoids count are.0.0 k.regex are.0.2, skips_avoid count us ks are.2)
skips_avoid count (V.Production name left right line ∷ us) ks are = skips_avoid count us ks are
skips_avoid count (V.Fence left right line ∷ us) ks are = skips_avoid count us ks are

-- words without fence symbols, and balanced words, one after another
bare_balanced : (fs : List (ℕ × ℕ)) (w : List ℕ) → IsBare fs w → IsBalanced fs w
bare_balanced fs [] bare = balanced_none
bare_balanced fs (c ∷ w) bare = balanced_then bare.0 (bare_balanced fs w bare.1)

bare_append : (fs : List (ℕ × ℕ)) (u v : List ℕ) → IsBare fs u → IsBare fs v → IsBare fs (u ++ v)
bare_append fs [] v one two = two
bare_append fs (c ∷ u) v one two = (one.0, bare_append fs u v one.1 two)

balanced_append : (fs : List (ℕ × ℕ)) (u v : List ℕ) → IsBalanced fs u → IsBalanced fs v → IsBalanced fs (u ++ v)
balanced_append fs u v balanced_none b = b
balanced_append fs u v (balanced_then {w = w} plain a) b = balanced_then plain (balanced_append fs w v a b)
balanced_append fs u v (balanced_group l r {inside = inside} {after = after} pair a d is) b =
    balanced_group l r pair a (balanced_append fs after v d b) (ap (λ (z : List ℕ). z ++ v) is ∙ ap (λ (z : List ℕ). l ∷ z) (append_assoc inside (r ∷ after) v))

abbrev IsLowMark : Mark → Type 0
IsLowMark m = IsSaidOfMark IsLowText m

-- the word of an item of a sheet, of an attribute, and of items and elements that stand in each other
module _ (n : Numbering) (slots : List (List ℕ)) where
  low_bare : (w : List ℕ) → AreLow w → IsBare (mark_pairs 0 (length n.names)) w
  low_bare [] low = tt
  low_bare (c ∷ w) low = let first = low.0 in (low_fence 0 (length n.names) c (omega arith), low_bare w low.1)

  item_bare : (i : Item) → IsSaidOfItem IsLowText i → IsBare (mark_pairs 0 (length n.names)) (items_word (flat_item n slots i))
  item_bare (I.Fixed []) low = tt
  item_bare (I.Fixed (c ∷ cs)) low = subst (IsBare (mark_pairs 0 (length n.names))) (sym (append-nil (c ∷ cs))) (low_bare (c ∷ cs) low)
  item_bare (I.Skip name) low = tt
  item_bare (I.Named name slot) low = by (place_of n.terms name)
    where
      by : (o : Option ℕ) → IsBare (mark_pairs 0 (length n.names)) (items_word (named_item o (number_of n.nons name) (number_of slots slot) ∷ []))
      by None = tt
      by (Some t) = tt

  marks_word : (ms ks : List Mark) → items_word (flat_marks n slots (ms ++ ks)) ≡ items_word (flat_marks n slots ms) ++ items_word (flat_marks n slots ks)
  marks_word ms ks = ap (λ (is : List GItem). items_word is) (flat_map-append (flat_mark n slots) ms ks) ∙ words_append (flat_marks n slots ms) (flat_marks n slots ks)

  values_bare : (is : List Item) → EachOf IsLowMark (map Value is) → IsBare (mark_pairs 0 (length n.names)) (items_word (flat_marks n slots (map Value is)))
  values_bare [] low = tt
  values_bare (i ∷ is) low =
      subst (IsBare (mark_pairs 0 (length n.names))) (sym (words_append (flat_item n slots i) (flat_marks n slots (map Value is)))) (bare_append (mark_pairs 0 (length n.names)) (items_word (flat_item n slots i)) (items_word (flat_marks n slots (map Value is))) (item_bare i low.0) (values_bare is low.1))

  attr_bare : (a : Attr) → EachOf IsLowMark (attr_marks a) → IsBare (mark_pairs 0 (length n.names)) (items_word (flat_marks n slots (attr_marks a)))
  attr_bare a low = (
    attribute_fence 0 (length n.names) (number_of n.names a.name),
    subst (IsBare (mark_pairs 0 (length n.names))) (sym (marks_word (map Value a.value) (AttributeEnd ∷ []))) (bare_append (mark_pairs 0 (length n.names)) (items_word (flat_marks n slots (map Value a.value))) (attr_end ∷ []) (values_bare a.value (each_front IsLowMark (map Value a.value) (AttributeEnd ∷ []) low.1)) (low_fence 0 (length n.names) attr_end (omega arith), tt)),
  )

  attrs_bare : (attrs : List Attr) → EachOf IsLowMark (attrs_marks attrs) → IsBare (mark_pairs 0 (length n.names)) (items_word (flat_marks n slots (attrs_marks attrs)))
  attrs_bare [] low = tt
  attrs_bare (a ∷ attrs) low =
      subst (IsBare (mark_pairs 0 (length n.names))) (sym (marks_word (attr_marks a) (attrs_marks attrs)))
      (bare_append (mark_pairs 0 (length n.names)) (items_word (flat_marks n slots (attr_marks a))) (items_word (flat_marks n slots (attrs_marks attrs))) (attr_bare a (each_front IsLowMark (attr_marks a) (attrs_marks attrs) low)) (attrs_bare attrs (each_back IsLowMark (attr_marks a) (attrs_marks attrs) low)))

  element_word : (o c : ℕ) (as_ inner rest : List GItem) (w : List GItem) → w ≡ Fixed (o ∷ []) ∷ (as_ ++ (inner ++ Fixed (c ∷ []) ∷ rest)) → items_word w ≡ o ∷ ((items_word as_ ++ items_word inner) ++ c ∷ items_word rest)
  element_word o c as_ inner rest w e =
      ap (λ (is : List GItem). items_word is) e ∙ ap (λ (z : List ℕ). o ∷ z) (words_append as_ (inner ++ Fixed (c ∷ []) ∷ rest) ∙ ap (λ (z : List ℕ). items_word as_ ++ z) (words_append inner (Fixed (c ∷ []) ∷ rest)) ∙ sym (append_assoc (items_word as_) (items_word inner) (c ∷ items_word rest)))

  nested_balanced : {ms : List Mark} → IsNested ms → EachOf (AreKnown n.names) ms → EachOf IsLowMark ms → IsBalanced (mark_pairs 0 (length n.names)) (items_word (flat_marks n slots ms))
  nested_balanced N.none known low = balanced_none
  nested_balanced (N.plain i rest more) known low =
      subst (IsBalanced (mark_pairs 0 (length n.names))) (sym (words_append (flat_item n slots i) (flat_marks n slots rest)))
      (balanced_append (mark_pairs 0 (length n.names)) (items_word (flat_item n slots i)) (items_word (flat_marks n slots rest)) (bare_balanced (mark_pairs 0 (length n.names)) (items_word (flat_item n slots i)) (item_bare i low.0)) (nested_balanced more known.1 low.1))
  nested_balanced (N.element tag attrs inner rest whole inside more is) known low =
      let k : ℕ = number_of n.names tag in
      let fs = mark_pairs 0 (length n.names) in
      let known_all = subst (EachOf (AreKnown n.names)) is known in
      let low_all = subst (EachOf IsLowMark) is low in
      let known_rest = each_back (AreKnown n.names) (opening_marks tag attrs) (inner ++ Closing tag ∷ rest) known_all in
      let low_rest = each_back IsLowMark (opening_marks tag attrs) (inner ++ Closing tag ∷ rest) low_all in
      let low_attrs : EachOf IsLowMark (attrs_marks (by_name attrs)) = (each_front IsLowMark (opening_marks tag attrs) (inner ++ Closing tag ∷ rest) low_all).1 in
      let among : IsAmong n.names tag = known_all.0.0 in
      let as_ = flat_marks n slots (attrs_marks (by_name attrs)) in
      let pair : IsPair fs (opening_mark k) (closing_mark k) = pair_there 0 (length n.names) k (omega arith) (omega (arith, number_bound n.names tag among)) in
      balanced_group (opening_mark k) (closing_mark k) pair
      (balanced_append fs (items_word as_) (items_word (flat_marks n slots inner)) (bare_balanced fs (items_word as_) (attrs_bare (by_name attrs) low_attrs)) (nested_balanced inside (each_front (AreKnown n.names) inner (Closing tag ∷ rest) known_rest) (each_front IsLowMark inner (Closing tag ∷ rest) low_rest)))
      (nested_balanced more (each_back (AreKnown n.names) inner (Closing tag ∷ rest) known_rest).1 (each_back IsLowMark inner (Closing tag ∷ rest) low_rest).1)
      (element_word (opening_mark k) (closing_mark k) as_ (flat_marks n slots inner) (flat_marks n slots rest) (flat_marks n slots whole) (ap (λ (ms : List Mark). flat_marks n slots ms) is ∙ flat_element n slots tag attrs inner rest))

rules_level : (n : Numbering) (us : List Unit) → EachOf (λ (r : Rule). EachOf (AreKnown n.names) r.right) (rules_of us) → EachOf (IsSaidOfRule IsLowText) (rules_of us) → EachOf (λ (r : RulePart). IsLevel (mark_pairs 0 (length n.names)) (spread_items (mark_pairs 0 (length n.names)) r.items)) (rule_parts n Xml (rules_of us))
rules_level n [] known low = tt
rules_level n (V.Terminal name pattern regex line ∷ us) known low = rules_level n us known low
rules_level n (V.Ignorable name pattern regex normal line ∷ us) known low = rules_level n us known low
rules_level n (V.Fence left right line ∷ us) known low = rules_level n us known low
rules_level n (V.Production name left right line ∷ us) known low =
    let slots = slot_names (map Content left) in
    let ms = all_marks right in
    (balanced_level (mark_pairs 0 (length n.names)) (flat_marks n slots ms) (marks_apart 0 (length n.names)) (nested_balanced n slots (all_nested right) known.0 low.0.1), rules_level n us known.1 low.1)

pub xml_proper :
    (us : List Unit) (names : List (List ℕ)) (parts : GramParts) → EachOf (IsSaidOfRule IsLowText) (rules_of us) → AreNamesOf (names_in (rules_of us)) names
    → parts.rules ≡ rule_parts (numbering us names) Xml (rules_of us) → AreTermsOf us parts.terms → AreSkipsOf us parts.skips → parts.fences ≡ mark_pairs 0 (length names) → HasProperFences parts
xml_proper us names parts low named rules terms skips is =
    let fs = mark_pairs 0 (length names) in
    let level = rules_level (numbering us names) us (known_names (rules_of us) names named) low in record {
      once = subst (λ (z : List (ℕ × ℕ)). IsDistinct (fence_symbols z)) (sym is) (marks_once 0 (length names));
      each_term = subst (λ (z : List (ℕ × ℕ)). EachOf (AvoidsFences z) parts.terms) (sym is) (terms_avoid (length names) us parts.terms terms);
      each_skip = subst (λ (z : List (ℕ × ℕ)). EachOf (λ (k : SkipPart). AvoidsFences z k.regex) parts.skips) (sym is) (skips_avoid (length names) us parts.skips skips);
      each_rule = subst (λ (z : List (ℕ × ℕ)). EachOf (λ (r : RulePart). IsLevel z (spread_items z r.items)) parts.rules) (sym is) (subst (λ (rs : List RulePart). EachOf (λ (r : RulePart). IsLevel fs (spread_items fs r.items)) rs) (sym rules) level);
    }
