-- The attributes of a word, as those of a tag.
use Rattle.std.proofs.Common.{◌≡◌, ℕ, ◌<◌, List, [], ◌∷◌, ◌++◌, length, append_assoc, true, false, not, codes, refl, ◌∙◌, ap, arith}
use Rattle.std.specs.declared.cmp.Ordering.TheVariants.{Less}
use Rattle.std.proofs.lemmas.List.Elements.{All-get_or}
use Rattle.xs_class.specs.Marks.{attr_end, attribute_mark}
use Rattle.xs_class.specs.Ordered.{IsOrdered}
use Rattle.xs_xml_laws.specs.Tables.{is_char, is_white, is_quote}
use Rattle.xs_xml_laws.specs.Piece.{Attribute as TagAttribute, spelt_bits, spelt_attribute, spelt_attributes, same, is_name, all_of, is_attribute, are_attributes, distinct, among}
use Rattle.xs_xml_laws.specs.Reads.{attribute_symbols, attribute, in_order, placed, value, name_order}
use Rattle.xs_xml_out.specs.declared.mode.Mode.TheVariants.{Tag, Value}
use Rattle.xs_xml_out.specs.Balanced.{Attribute, attributes_word, AreAttributes, IsAscending}
use Rattle.xs_xml_out.specs.Written.{name_at, written}
use Rattle.xs_xml_out.specs.Laws.{AreNames}
use Rattle.xs_xml_out.proofs.SymbolKinds.{symbol_kind-attribute_mark}
use Rattle.xs_xml_out.proofs.Places.{name_before, names_apart, place_of-name_at}
use Rattle.xs_xml_out.proofs.Values.{bits, are_bits-bits, value-bits, written-value}
use Rattle.xs_class.proofs.Truth.{both_true, neither}

-- one space before the name, and double quotes
abbrev pub tag_attribute : List ℕ → List ℕ → TagAttribute
tag_attribute n v = record { gap = 32 ∷ []; name = n; left = []; right = []; quote = 34; value = bits v }

abbrev pub tag_attributes : List (List ℕ) → List Attribute → List TagAttribute
tag_attributes names [] = []
tag_attributes names (a ∷ as_) = tag_attribute (name_at names a.name) a.value ∷ tag_attributes names as_

attribute_written : (names : List (List ℕ)) (k : ℕ) (v w y : List ℕ) → written names Value (v ++ attr_end ∷ w) ≡ spelt_bits (bits v) (34 ∷ y) → written names Tag (attribute_mark k ∷ (v ++ attr_end ∷ w)) ≡ spelt_attribute (tag_attribute (name_at names k) v) y
attribute_written names k v w y again = rw (symbol_kind-attribute_mark k, again) (ap (λ (z : List ℕ). 32 ∷ z) (append_assoc (name_at names k) (codes "=\"") (spelt_bits (bits v) (34 ∷ y))))

pub written-attributes : (names : List (List ℕ)) (as_ : List Attribute) (y : List ℕ) → AreAttributes names as_ → written names Tag (attributes_word as_ y) ≡ spelt_attributes (tag_attributes names as_) (written names Tag y)
written-attributes names [] y are = refl
written-attributes names (a ∷ as_) y are = attribute_written names a.name a.value (attributes_word as_ y) (spelt_attributes (tag_attributes names as_) (written names Tag y)) (written-value names a.value (attributes_word as_ y) are.1 ∙ ap (λ (z : List ℕ). spelt_bits (bits a.value) (34 ∷ z)) (written-attributes names as_ y are.2))

attribute_fits : (n v : List ℕ) → is_name n ≡ true → all_of is_char v ≡ true → is_attribute (tag_attribute n v) ≡ true
unfolding is_white is_quote
attribute_fits n v is all = rw (is, are_bits-bits v all) refl

-- k is below the names of all these attributes
abbrev IsBelow : ℕ → List Attribute → Type 0
IsBelow k [] = Unit {0}
IsBelow k (a ∷ as_) = (k < a.name) × IsBelow k as_

ascending_tail : (a : Attribute) (as_ : List Attribute) → IsAscending (a ∷ as_) → IsAscending as_
ascending_tail a [] is = tt
ascending_tail a (b ∷ bs) is = is.1

below_from : (k : ℕ) (as_ : List Attribute) (a : Attribute) → k < a.name → IsAscending (a ∷ as_) → IsBelow k as_
below_from k [] a low is = tt
below_from k (b ∷ bs) a low is = let h = is.0 in let g : k < b.name = omega (arith, low, h) in (g, below_from k bs b g is.1)

below_rest : (a : Attribute) (as_ : List Attribute) → IsAscending (a ∷ as_) → IsBelow a.name as_
below_rest a [] is = tt
below_rest a (b ∷ bs) is = (is.0, below_from a.name bs b is.0 is.1)

placed_first : (a b : TagAttribute) (bs : List TagAttribute) → name_order a.name b.name ≡ Less → placed a (b ∷ bs) ≡ a ∷ b ∷ bs
placed_first a b bs is = rw is refl

symbols_next : (m k : ℕ) (u v ys w y : List ℕ) → m ≡ attribute_mark k → u ≡ v → ys ++ y ≡ w → (m ∷ (u ++ attr_end ∷ ys)) ++ y ≡ attribute_mark k ∷ (v ++ attr_end ∷ w)
symbols_next m k u v ys w y e f g = rw (e, f, ← g) (ap (λ (z : List ℕ). attribute_mark k ∷ z) (append_assoc v (attr_end ∷ ys) y))

module _ (names : List (List ℕ)) (ordered : IsOrdered names) (are_names : AreNames names) where
  pub name_at-is_name : (k : ℕ) → k < length names → is_name (name_at names k) ≡ true
  name_at-is_name k below = All-get_or (λ name. is_name name ≡ true) names k [] below are_names

  pub attributes_fit : (as_ : List Attribute) → AreAttributes names as_ → are_attributes (tag_attributes names as_) ≡ true
  attributes_fit [] are = refl
  attributes_fit (a ∷ as_) are = both_true (is_attribute (tag_attribute (name_at names a.name) a.value)) (are_attributes (tag_attributes names as_)) (attribute_fits (name_at names a.name) a.value (name_at-is_name a.name are.0) are.1) (attributes_fit as_ are.2)

  among_none : (k : ℕ) (as_ : List Attribute) → IsBelow k as_ → AreAttributes names as_ → among (name_at names k) (tag_attributes names as_) ≡ false
  among_none k [] up are = refl
  among_none k (a ∷ as_) up are = neither (same (name_at names k) (name_at names a.name)) (among (name_at names k) (tag_attributes names as_)) (names_apart names ordered k a.name up.0 are.0) (among_none k as_ up.1 are.2)

  pub attributes_distinct : (as_ : List Attribute) → IsAscending as_ → AreAttributes names as_ → distinct (tag_attributes names as_) ≡ true
  attributes_distinct [] ascend are = refl
  attributes_distinct (a ∷ as_) ascend are = both_true (not (among (name_at names a.name) (tag_attributes names as_))) (distinct (tag_attributes names as_)) (rw (among_none a.name as_ (below_rest a as_ ascend) are.2) refl) (attributes_distinct as_ (ascending_tail a as_ ascend) are.2)

  pub attributes_in_order : (as_ : List Attribute) → IsAscending as_ → AreAttributes names as_ → in_order (tag_attributes names as_) ≡ tag_attributes names as_
  attributes_in_order [] ascend are = refl
  attributes_in_order (a ∷ []) ascend are = refl
  attributes_in_order (a ∷ b ∷ bs) ascend are =
      let x : TagAttribute = tag_attribute (name_at names a.name) a.value in
      let y : TagAttribute = tag_attribute (name_at names b.name) b.value in
      ap (λ (z : List TagAttribute). placed x z) (attributes_in_order (b ∷ bs) ascend.1 are.2) ∙ placed_first x y (tag_attributes names bs) (name_before names ordered a.name b.name ascend.0 are.2.0)

  attribute_is : (k : ℕ) → k < length names → attribute names (name_at names k) ≡ attribute_mark k
  attribute_is k below = rw (place_of-name_at names ordered k below) refl

  pub attributes_give : (as_ : List Attribute) (y : List ℕ) → AreAttributes names as_ → attribute_symbols names (tag_attributes names as_) ++ y ≡ attributes_word as_ y
  attributes_give [] y are = refl
  attributes_give (a ∷ as_) y are = symbols_next (attribute names (name_at names a.name)) a.name (value false (bits a.value)) a.value (attribute_symbols names (tag_attributes names as_)) (attributes_word as_ y) y (attribute_is a.name are.0) (value-bits a.value are.1) (attributes_give as_ y are.2)
