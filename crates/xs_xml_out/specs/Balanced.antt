-- Balanced words: one element, with its attributes and its content.
use Rattle.std.specs.Prelude.{◌≡◌, ℕ, ◌<◌, List, [], ◌∷◌, ◌++◌, length, true}
use Rattle.xs_class.specs.Marks.{attr_end, opening_mark, attribute_mark, closing_mark}
use Rattle.xs_xml_laws.specs.Tables.{is_char}
use Rattle.xs_xml_laws.specs.Piece.{all_of}

-- an attribute: the place of its name, and the characters of its value
pub record Attribute : Type 0 where
  pub name : ℕ
  pub value : List ℕ

-- the symbols of attributes, and what stands after them
abbrev pub attributes_word : List Attribute → List ℕ → List ℕ
attributes_word [] rest = rest
attributes_word (a ∷ as_) rest = attribute_mark a.name ∷ (a.value ++ attr_end ∷ attributes_word as_ rest)

-- the symbols of an element, and what stands after it
abbrev pub element_word : ℕ → List Attribute → List ℕ → List ℕ → List ℕ
element_word k attributes content rest = opening_mark k ∷ attributes_word attributes (content ++ closing_mark k ∷ rest)

-- each attribute has one of the names, and a value of Chars
abbrev pub AreAttributes : List (List ℕ) → List Attribute → Type 0
AreAttributes names [] = Unit {0}
AreAttributes names (a ∷ as_) = (a.name < length names) × (all_of is_char a.value ≡ true) × AreAttributes names as_

-- the names of the attributes ascend strictly
abbrev pub IsAscending : List Attribute → Type 0
IsAscending [] = Unit {0}
IsAscending (a ∷ []) = Unit {0}
IsAscending (a ∷ b ∷ bs) = (a.name < b.name) × IsAscending (b ∷ bs)

-- Chars and balanced elements, one after the other
pub data IsContent (names : List (List ℕ)) : List ℕ → Type 0 where
  nothing : IsContent names []
  text : (c : ℕ) (rest : List ℕ) → is_char c ≡ true → IsContent names rest → IsContent names (c ∷ rest)
  element : (k : ℕ) (attributes : List Attribute) (content rest whole : List ℕ) → k < length names → AreAttributes names attributes → IsAscending attributes → IsContent names content → IsContent names rest → whole ≡ element_word k attributes content rest → IsContent names whole

-- the word is one element of these names
pub record IsBalanced (names : List (List ℕ)) (word : List ℕ) : Type 0 where
  pub name : ℕ
  pub attributes : List Attribute
  pub content : List ℕ
  pub is_named : name < length names
  pub are_attributes : AreAttributes names attributes
  pub is_ascending : IsAscending attributes
  pub is_content : IsContent names content
  pub is : word ≡ element_word name attributes content []
