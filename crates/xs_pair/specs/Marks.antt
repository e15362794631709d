-- An XML side as a list of marks and items, its elements laid out flat.
use Rattle.std.specs.Prelude.{ℕ, Bool, true, false, List, [], ◌∷◌, ◌++◌, map, suc, if◌then◌else◌, insert, encode_utf8_all}
use Rattle.std.specs.Borrow.{Bor}
use Rattle.std.specs.List.{flat_map}
use Rattle.std.specs.Ordering.{nat_cmp, is_lt}
use Rattle.std.specs.Cmp.Lexicographic.{slice_cmp}
use Rattle.xs_sheet.specs.declared.item.Item.{Item}
use Rattle.xs_sheet.specs.declared.item.Item.TheVariants as I
use Rattle.xs_sheet.specs.declared.x_item.Attr.{Attr}
use Rattle.xs_sheet.specs.declared.x_item.XItem.{XItem}
use Rattle.xs_sheet.specs.declared.x_item.XItem.TheOpen as O
use Rattle.xs_sheet.specs.declared.x_item.XItem.TheOpen.{XItem-F}
use Rattle.xs_sheet.specs.declared.x_item.XItem.TheFolds.{fold-XItem}
use Rattle.xs_pair.specs.declared.mark.Mark.{Mark}
use Rattle.xs_pair.specs.declared.mark.Mark.TheVariants.{Opening, Attribute, AttributeEnd, Closing, Value, Content}

-- the first name's UTF-8 bytes come before these
abbrev pub is_before : List ℕ → List ℕ → Bool
is_before bytes name = is_lt (slice_cmp nat_cmp bytes (encode_utf8_all name))

-- the place of the first attribute whose name comes after a name of these bytes, or the end
abbrev pub place_before : List ℕ → List Attr → ℕ
place_before bytes [] = 0
place_before bytes (a ∷ attrs) = if is_before bytes a.name then 0 else suc (place_before bytes attrs)

-- each attribute put before the first one whose name comes after its own
abbrev pub placed : List Attr → List Attr → List Attr
placed sorted [] = sorted
placed sorted (a ∷ attrs) = placed (insert sorted (place_before (encode_utf8_all a.name) sorted) a) attrs

-- the attributes in ascending order of their names' bytes
abbrev pub by_name : List Attr → List Attr
by_name attrs = placed [] attrs

-- the attribute's mark, the items of its value, and its end
abbrev pub attr_marks : Attr → List Mark
attr_marks a = Attribute a.name ∷ (map Value a.value ++ AttributeEnd ∷ [])

abbrev pub attrs_marks : List Attr → List Mark
attrs_marks attrs = flat_map attr_marks attrs

abbrev pub joined : List (List Mark) → List Mark
joined [] = []
joined (ms ∷ mss) = ms ++ joined mss

abbrev pub attr_names : List Attr → List (List ℕ)
attr_names attrs = map (λ (a : Attr). a.name) attrs

-- the opening of an element, and its attributes in ascending order of their names
abbrev pub opening_marks : List ℕ → List Attr → List Mark
opening_marks tag attrs = Opening tag (attr_names attrs) ∷ attrs_marks (by_name attrs)

-- an element is its opening, its attributes, its content and its closing
abbrev pub element_marks : List ℕ → List Attr → List Mark → List Mark
element_marks tag attrs content = opening_marks tag attrs ++ (content ++ Closing tag ∷ [])

abbrev pub item_marks : XItem-F (List Mark) → List Mark
item_marks (O.Plain i) = Content i ∷ []
item_marks (O.Element tag attrs content) = element_marks tag attrs (joined content)

unfoldable pub marks_of : XItem → List Mark
marks_of = fold-XItem (List Mark) item_marks

abbrev pub all_marks : List XItem → List Mark
all_marks xs = flat_map marks_of xs

-- the marks begin with the opening of an element
abbrev pub opens : List Mark → Bool
opens [] = false
opens (Opening tag names ∷ ms) = true
opens (Attribute name ∷ ms) = false
opens (AttributeEnd ∷ ms) = false
opens (Closing tag ∷ ms) = false
opens (Value i ∷ ms) = false
opens (Content i ∷ ms) = false

-- exactly one element
abbrev pub is_element : List XItem → Bool
is_element [] = false
is_element (x ∷ []) = opens (marks_of x)
is_element (x ∷ y ∷ xs) = false

-- the name of an element at its opening, and that of an attribute
abbrev pub mark_name : Mark → List (List ℕ)
mark_name (Opening tag names) = tag ∷ []
mark_name (Attribute name) = name ∷ []
mark_name AttributeEnd = []
mark_name (Closing tag) = []
mark_name (Value i) = []
mark_name (Content i) = []

abbrev pub mark_names : List Mark → List (List ℕ)
mark_names ms = flat_map mark_name ms

-- the slot of an item, with the name of its unit
abbrev pub item_slots : Item → List (List ℕ × List ℕ)
item_slots (I.Fixed text) = []
item_slots (I.Named name slot) = (slot, name) ∷ []
item_slots (I.Skip name) = []

abbrev pub mark_slots : Mark → List (List ℕ × List ℕ)
mark_slots (Opening tag names) = []
mark_slots (Attribute name) = []
mark_slots AttributeEnd = []
mark_slots (Closing tag) = []
mark_slots (Value i) = item_slots i
mark_slots (Content i) = item_slots i

-- the slots of a side in order, each with the name of its unit
abbrev pub slots_of : List Mark → List (List ℕ × List ℕ)
slots_of ms = flat_map mark_slots ms

abbrev pub slot_names : List Mark → List (List ℕ)
slot_names ms = map (λ (s : List ℕ × List ℕ). s.0) (slots_of ms)

-- slots with the names of their units, where the code has both by reference
abbrev pub shown : List (Bor (List ℕ) × Bor (List ℕ)) → List (List ℕ × List ℕ)
shown ss = map (λ s. (s.0.now, s.1.now)) ss
