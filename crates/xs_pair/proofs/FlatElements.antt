-- An element among other marks, laid out flat.
use Rattle.std.proofs.Common.{◌≡◌, ◌∙◌, List, [], ◌∷◌, ◌++◌, ℕ, ap}
use Rattle.std.proofs.lemmas.List.Concat.{flat_map-append}
use Rattle.xs_class.specs.Marks.{opening_mark, closing_mark}
use Rattle.xs_sheet.specs.declared.x_item.Attr.{Attr}
use Rattle.xs_gram.specs.declared.parts.GItem.{GItem}
use Rattle.xs_gram.specs.declared.parts.GItem.TheVariants.{Fixed}
use Rattle.xs_pair.specs.declared.mark.Mark.{Mark}
use Rattle.xs_pair.specs.declared.mark.Mark.TheVariants.{Closing}
use Rattle.xs_pair.specs.Marks.{attrs_marks, by_name, opening_marks}
use Rattle.xs_pair.specs.Units.{number_of}
use Rattle.xs_pair.specs.Grammars.{Numbering, flat_mark, flat_marks}

-- an element with these attributes and this content, and what follows it
abbrev pub opened : List ℕ → List Attr → List Mark → List Mark → List Mark
opened tag attrs inner rest = opening_marks tag attrs ++ (inner ++ Closing tag ∷ rest)

pub flat_element : (n : Numbering) (slots : List (List ℕ)) (tag : List ℕ) (attrs : List Attr) (inner rest : List Mark) → flat_marks n slots (opened tag attrs inner rest) ≡ Fixed (opening_mark (number_of n.names tag) ∷ []) ∷ (flat_marks n slots (attrs_marks (by_name attrs)) ++ (flat_marks n slots inner ++ Fixed (closing_mark (number_of n.names tag) ∷ []) ∷ flat_marks n slots rest))
flat_element n slots tag attrs inner rest =
    ap (λ (is : List GItem). Fixed (opening_mark (number_of n.names tag) ∷ []) ∷ is) (flat_map-append (flat_mark n slots) (attrs_marks (by_name attrs)) (inner ++ Closing tag ∷ rest) ∙ ap (λ (is : List GItem). flat_marks n slots (attrs_marks (by_name attrs)) ++ is) (flat_map-append (flat_mark n slots) inner (Closing tag ∷ rest)))
